use Rattle.std.proofs.Common.{◌≡◌, ◌+◌, ◌-◌, ◌*◌, ◌/◌, ◌^◌, ◌<◌, ◌≤◌, get_or}
use Rattle.ff_ids.specs.Views.{key_at}
use Rattle.monitor_rule.specs.Sorted.{IsBetween}
use Rattle.monitor_rule.proofs.row.Row.halve_ahead.Given as goal

abbrev pub invariant-loop-left : goal.invariant-loop-left
invariant-loop-left g l =
    record {
      between : IsBetween l.slots l.self (key_at l.self.ring l.places l.member) l.low (l.low + l.left);
      some : 0 < l.left;
      middle : l.other ≡ get_or l.self.order (l.low + (l.left - l.left / 2) - 1) 0;
      counted : l.initial.steps ≤ l.steps;
      taken : 2 ^ (l.steps - l.initial.steps) * l.left ≤ l.count;
      least : l.count < 2 ^ (l.steps - l.initial.steps) * (l.left + 1);
    }

abbrev pub decreases-loop-left : goal.decreases-loop-left
decreases-loop-left g l = l.left
