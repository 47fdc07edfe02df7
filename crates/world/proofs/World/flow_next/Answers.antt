use Rattle.std.proofs.Common.{◌≡◌, ℕ, List, Some, length, refl, ap, sym, ◌∙◌, rules}
use Rattle.std.specs.List.{slice_get}
use Rattle.std.proofs.lemmas.Option.{slice_get_read}
use Rattle.world.specs.contracts.World.{the_view}
use Rattle.world.specs.Holding.{Kept}
use Rattle.world.proofs.World.flow_next.Goals as goal

pub returns-in-Err-clause-flows : goal.returns-in-Err-clause-flows
returns-in-Err-clause-flows c = λ s before base k at.
    let d : ℕ × List ℕ = c.in-Some.field-0.now in
    let v : Kept = the_view c.self.inside in
    let looked : slice_get c.as_slice.result.now c.self.inside.flowed ≡ Some d = slice_get_read c.as_slice.result.now (length c.as_slice.result.now) c.self.inside.flowed d refl (search rules) (search rules) in
    let sent : c.as_slice.result.now ≡ k.world.sent = c.as_slice.ensures ∙ ap (λ (z : Kept). z.sent) c.self.view_is ∙ at.holds.sent in
    let flowed : c.self.inside.flowed ≡ k.world.flowed = ap (λ (z : Kept). z.flowed) c.self.view_is ∙ at.holds.flowed in
    let found : slice_get k.world.sent k.world.flowed ≡ Some d = sym (ap (λ (z : List (ℕ × List ℕ)). slice_get z c.self.inside.flowed) sent ∙ ap (slice_get k.world.sent) flowed) ∙ looked in
    (d, found, c.in-Err.ensures.flows s before base k d at found (search rules))
