use Rattle.std.proofs.Common.{◌≡◌, ℕ, List, Some, None, ap, ◌∙◌, rules}
use Rattle.world.specs.Holding.{Kept, given_under}
use Rattle.world.proofs.NameLemmas.{look-up}
use Rattle.world.proofs.World.given_copy.Goals as goal

pub returns-in_ok-to_vec-in-Some : goal.returns-in_ok-to_vec-in-Some
returns-in_ok-to_vec-in-Some c =
    let items : c.in_ok-to_vec-in-Some.field-0.items ≡ c.in-Some.given.now.bytes = search rules in
    ap (λ (z : List ℕ). Some z) items ∙ look-up c.self.inside.named.entries c.args.name.now (Some c.in-Some.given.now) c.in-Some.ensures.value ∙ ap (λ (v : Kept). given_under v.named c.args.name.now) c.self.view_is

pub returns-in-None : goal.returns-in-None
returns-in-None c = look-up c.self.inside.named.entries c.args.name.now None c.in-None.ensures.value ∙ ap (λ (v : Kept). given_under v.named c.args.name.now) c.self.view_is
