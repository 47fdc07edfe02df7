use Rattle.std.proofs.Common.{◌≡◌, ℕ, not, List, refl, ap, sym, ◌∙◌, rules}
use Rattle.std.specs.Prelude.{is_some}
use Rattle.std.specs.Option.{option_copied}
use Rattle.world_rules.specs.Steps.{given_bytes}
use Rattle.world_rules.specs.Worlds.{named_so}
use Rattle.world.specs.Holding.{Kept, given_under}
use Rattle.world.proofs.NameLemmas.{look-up, some-mapped}
use Rattle.world.proofs.World.is_free.Goals as goal

pub returns : goal.returns
returns c = λ s w told h.
    let name : List ℕ = c.args.name.now in
    let none : c.is_none.result ≡ not (is_some c.get.result) = search rules in
    let same : c.as_slice.result.now ≡ name = search rules in
    let found : is_some c.get.result ≡ is_some (given_under c.args.self.now.named name) =
    sym (some-mapped (λ b. b.now) c.get.result ∙ refl) ∙ sym (some-mapped (λ g. g.bytes) (option_copied c.get.result)) ∙ ap is_some (look-up c.self.inside.named.entries c.as_slice.result.now (option_copied c.get.result) c.get.ensures.value)
    ∙ ap (λ (v : Kept). is_some (given_under v.named c.as_slice.result.now)) c.self.view_is ∙ ap (λ (z : List ℕ). is_some (given_under c.args.self.now.named z)) same in
    none ∙ ap not (found ∙ ap is_some (h.named name) ∙ some-mapped given_bytes (named_so w name))
