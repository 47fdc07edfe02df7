use Rattle.std.proofs.Common.{◌∙◌, ap, sym, subst}
use Rattle.removal_timer.specs.Kept.{Kept as Timed}
use Rattle.membership.specs.Life.{Life}
use Rattle.membership.specs.Holds.{Holds}
use Rattle.membership.proofs.SoundLemmas.{IsSound-cleared}
use Rattle.membership.proofs.AddLemmas.{Holds-opening}
use Rattle.membership.proofs.Membership.new_life.Goals as goal

pub invariant_of-self : goal.invariant_of-self
invariant_of-self c =
    record {
      sound = rw (c.clear.ensures, c.clear-2.ensures) (IsSound-cleared _ _ _ _ _ _ c.self.invariant.sound c.clear-3.ensures);
      timed = record {
        rings_same = ap (λ (t : Timed). t.rings) c.clear_all.ensures ∙ c.self.invariant.timed.rings_same;
        timeout_same = ap (λ (t : Timed). t.timeout) c.clear_all.ensures ∙ c.self.invariant.timed.timeout_same;
        in_order = rw c.clear_all.ensures tt;
        past = rw c.clear_all.ensures tt;
      };
    }

pub returns-clause-holds : goal.returns-clause-holds
returns-clause-holds c = λ s h.
    let held = subst (λ (l : Life). Holds l s) (sym c.self.view_is) h in
    rw (c.clear.ensures, c.clear-2.ensures, c.clear_all.ensures) (Holds-opening _ s held)
