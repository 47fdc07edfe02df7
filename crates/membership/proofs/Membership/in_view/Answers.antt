use Rattle.std.proofs.Common.{◌∙◌, sym, subst}
use Rattle.membership.specs.Life.{Life}
use Rattle.membership.specs.Holds.{Holds}
use Rattle.membership.proofs.HoldLemmas.{in_view-at}
use Rattle.membership.proofs.Membership.in_view.Goals as goal

pub returns : goal.returns
returns c = λ s h.
    c.is_live.ensures ∙ sym (in_view-at _ s c.args.member (subst (λ (l : Life). Holds l s) (sym c.self.view_is) h))
