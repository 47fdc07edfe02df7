use Rattle.std.proofs.Common.{ap}
use Rattle.removal_timer.specs.Kept.{Kept as Timed}
use Rattle.membership.proofs.AddLemmas.{IsSound-opening, Holds-nothing}
use Rattle.membership.proofs.Membership.open.Goals as goal

pub invariant_of-result : goal.invariant_of-result
invariant_of-result c =
    record {
      sound = rw (c.in_ok-new.ensures, c.in_ok-new-2.ensures, c.in_ok-new-3.ensures) (IsSound-opening c.args.group c.in_ok-rings.rings c.requires c.in_ok-rings.ensures);
      timed = record {
        rings_same = ap (λ (t : Timed). t.rings) c.in_ok-timers.ensures;
        timeout_same = ap (λ (t : Timed). t.timeout) c.in_ok-timers.ensures;
        in_order = rw c.in_ok-timers.ensures tt;
        past = rw c.in_ok-timers.ensures tt;
      };
    }

pub returns-clause-holds : goal.returns-clause-holds
returns-clause-holds c =
    rw (c.in_ok-new.ensures, c.in_ok-new-2.ensures, c.in_ok-new-3.ensures, c.in_ok-timers.ensures) (Holds-nothing c.args.group)
