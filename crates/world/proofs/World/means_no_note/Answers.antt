use Rattle.std.proofs.Common.{◌≡◌, ℕ, not, Option, ap, ◌∙◌, rules}
use Rattle.std.specs.Prelude.{is_some}
use Rattle.world_rules.specs.Refusals.{holds_of, newest_signed}
use Rattle.world.proofs.World.means_no_note.Goals as goal

pub returns-in-Some : goal.returns-in-Some
returns-in-Some c = λ s w told h.
    let none : c.is_none.result ≡ not (is_some c.newest_signed.result) = search rules in
    none ∙ ap (λ (o : Option ℕ). not (is_some o)) (c.newest_signed.ensures s w told h) ∙ ap (holds_of (λ m. not (is_some (newest_signed w m)))) c.in-Some.ensures
