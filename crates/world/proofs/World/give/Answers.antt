use Rattle.std.proofs.Common.{◌≡◌, ℕ, List, Some, ap, sym, ◌∙◌}
use Rattle.std.specs.Option.{option_map}
use Rattle.std.proofs.lemmas.Result.{err_from_is_err_and}
use Rattle.std.specs.Prelude.{Vec}
use Rattle.std.specs.Global.{Global}
use Rattle.world_rules.specs.Worlds.{named_so}
use Rattle.world_rules.specs.Steps.{given_bytes}
use Rattle.world.proofs.CourseLemmas.{front-at}
use Rattle.world.proofs.HandingLemmas.{gives-named}
use Rattle.world.proofs.World.give.Goals as goal

pub returns-in_err-bytes-clause-gives : goal.returns-in_err-bytes-clause-gives
returns-in_err-bytes-clause-gives c = λ s before base k m at place.
    let p = err_from_is_err_and c.from_residual.result c.from_residual.ensures.1 in
    rw (p.1, p.2) (front-at s before base c.args.self.now c.args.out.now.items k at)

pub returns-in-Some-clause-gives : goal.returns-in-Some-clause-gives
returns-in-Some-clause-gives c = λ s before base k m at place.
    let given : Some c.deref.result.now ≡ option_map given_bytes (named_so k.world c.args.name.now) =
    ap (λ (z : List ℕ). Some z) c.deref.ensures.value ∙ ap (option_map (λ (z : Vec ℕ Global). z.items)) (sym c.in-Some.is) ∙ c.in_ok-bytes.ensures ∙ at.holds.named c.args.name.now in
    gives-named s before base c.hand.new.self c.hand.new.out.items k m (named_so k.world c.args.name.now) c.deref.result.now c.hand.result given (c.hand.ensures.hands s before base k m at place)
