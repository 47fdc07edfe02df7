use Rattle.std.proofs.Common.{◌∙◌, ap, sym, subst}
use Rattle.std.specs.FinMap.{get}
use Rattle.membership.specs.Life.{Life}
use Rattle.membership.specs.Holds.{Holds}
use Rattle.membership.specs.contracts.Membership.{the_view}
use Rattle.membership.proofs.HoldLemmas.{each_held, successor-held}
use Rattle.membership.proofs.Membership.successor_near.Goals as goal

pub returns : goal.returns
returns c = λ s h.
    let held = subst (λ (l : Life). Holds l s) (sym c.self.view_is) h in
    let placed = ap (λ (l : Life). get l.places c.args.member) c.self.view_is ∙ c.places_of.ensures.value in
    c.successor_near.ensures ∙ successor-held (the_view c.self.inside) s c.args.ring.0 c.args.member c.self.inside.rings.members c.places_of.result.now (each_held _ s held) c.self.invariant.sound.viewed placed
