use Rattle.std.proofs.Common.{◌∙◌, sym, subst}
use Rattle.membership.specs.Life.{Life}
use Rattle.membership.specs.Holds.{Holds}
use Rattle.membership.specs.contracts.Membership.{the_view}
use Rattle.membership.proofs.HoldLemmas.{each_held, numbers-held}
use Rattle.membership.proofs.Membership.view.Goals as goal

pub returns : goal.returns
returns c = λ s h.
    let held = subst (λ (l : Life). Holds l s) (sym c.self.view_is) h in
    c.numbers.ensures ∙ numbers-held (the_view c.self.inside) s c.self.inside.rings.members (each_held _ s held) c.self.invariant.sound.viewed
