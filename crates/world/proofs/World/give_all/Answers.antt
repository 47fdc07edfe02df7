use Rattle.std.proofs.Common.{◌≡◌, ℕ, List, Some, None, ap, sym, ◌∙◌}
use Rattle.std.specs.Option.{option_map}
use Rattle.world_rules.specs.Settings.{nodes}
use Rattle.world.specs.Holding.{numbers}
use Rattle.std.proofs.lemmas.Result.{err_from_is_err_and}
use Rattle.std.specs.Prelude.{Vec}
use Rattle.std.specs.Global.{Global}
use Rattle.world_rules.specs.Worlds.{named_so, running}
use Rattle.world_rules.specs.Steps.{given_bytes}
use Rattle.world.proofs.CourseLemmas.{front-at}
use Rattle.world.proofs.HandingLemmas.{each-named, each-none}
use Rattle.world.proofs.PlaceLemmas.{nodes-rise}
use Rattle.world.proofs.World.give_all.Goals as goal

pub returns-in_err-bytes-clause-gives : goal.returns-in_err-bytes-clause-gives
returns-in_err-bytes-clause-gives c = λ s before base k at.
    let p = err_from_is_err_and c.from_residual.result c.from_residual.ensures.1 in
    rw (p.1, p.2) (front-at s before base c.args.self.now c.args.out.now.items k at)

pub returns-in-Some-clause-gives : goal.returns-in-Some-clause-gives
returns-in-Some-clause-gives c = λ s before base k at.
    let given : Some c.deref.result.now ≡ option_map given_bytes (named_so k.world c.args.name.now) =
    ap (λ (z : List ℕ). Some z) c.deref.ensures.value ∙ ap (option_map (λ (z : Vec ℕ Global). z.items)) (sym c.in-Some.is) ∙ c.in_ok-bytes.ensures ∙ at.holds.named c.args.name.now in
    each-named s before base c.hand_all.new.self c.hand_all.new.out.items k (numbers c.args.self.now) (nodes s) (named_so k.world c.args.name.now) c.deref.result.now c.hand_all.result at.holds.nodes (nodes-rise s) given
    (c.hand_all.ensures.hands s before base k at)

pub returns-in-None-clause-gives : goal.returns-in-None-clause-gives
returns-in-None-clause-gives c = λ s before base k at.
    let given : None ≡ option_map given_bytes (named_so k.world c.args.name.now) = ap (option_map (λ (z : Vec ℕ Global). z.items)) (sym c.in-None.is) ∙ c.in_ok-bytes.ensures ∙ at.holds.named c.args.name.now in
    (k, each-none s (running s k.world) (named_so k.world c.args.name.now) k given, at)
