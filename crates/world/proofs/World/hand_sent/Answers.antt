use Rattle.std.proofs.Common.{◌≡◌, ℕ, List, ◌++◌, Some, map, ap, sym, ◌∙◌}
use Rattle.std.specs.List.{slice_get}
use Rattle.world_rules.specs.Steps.{tells_got}
use Rattle.std.proofs.lemmas.Result.{err_from_is_err_and}
use Rattle.world.proofs.CourseLemmas.{front-at, front-began, front-on}
use Rattle.world.proofs.HandingLemmas.{goes-sent}
use Rattle.world.proofs.WorldLemmas.{at-got}
use Rattle.world.proofs.World.hand_sent.Goals as goal

pub returns-in_err-bytes-clause-hands : goal.returns-in_err-bytes-clause-hands
returns-in_err-bytes-clause-hands c = λ s before base k m at place.
    let p = err_from_is_err_and c.from_residual.result c.from_residual.ensures.1 in
    rw (p.1, p.2) (front-at s before base c.args.self.now c.args.out.now.items k at)

pub returns-in_err-tell_got-clause-hands : goal.returns-in_err-tell_got-clause-hands
returns-in_err-tell_got-clause-hands c = λ s before base k m at place.
    let p = err_from_is_err_and c.from_residual-in_err-tell_got.result c.from_residual-in_err-tell_got.ensures.1 in
    rw (p.1, p.2)
    (front-on s before base c.args.self.now c.args.out.now.items c.tell_got.new.out.items k at (front-began c.args.out.now.items c.tell_got.new.out.items c.in_err-tell_got.ensures.refused))

pub returns-clause-hands : goal.returns-clause-hands
returns-clause-hands c = λ s before base k m at place.
    let got = at-got s before base c.args.self.now c.args.out.now.items c.tell_got.new.out.items k m c.args.number at (c.in_ok-tell_got.ensures.ok s k.world (before ++ k.told) m at.holds place) in
    let bytes : c.deref.result.now ≡ c.in_ok-bytes.bytes.items = c.deref.ensures.value in
    let copied : slice_get (map (λ d. d.1) k.world.sent) c.args.number ≡ Some c.deref.result.now =
    ap (λ (z : List (ℕ × List ℕ)). slice_get (map (λ d. d.1) z) c.args.number) (sym at.holds.sent) ∙ c.in_ok-bytes.ensures ∙ ap (λ (z : List ℕ). Some z) (sym bytes) in
    goes-sent s before base c.hand.new.self c.hand.new.out.items k m c.args.number c.deref.result.now c.hand.result copied (c.hand.ensures.hands s before base (tells_got s m c.args.number k) m got place)
