use Rattle.std.proofs.Common.{◌+◌, ◌-◌, ◌*◌, ◌^◌, ◌<◌, ◌≤◌}
use Rattle.ff_ids.specs.Views.{key_at}
use Rattle.monitor_rule.specs.Sorted.{IsBetween}
use Rattle.monitor_rule.proofs.row.Row.halve_by_hints.Given as goal

abbrev pub invariant-loop-left : goal.invariant-loop-left
invariant-loop-left g l =
    record {
      between : IsBetween l.slots l.self (key_at l.self.ring l.places l.member) l.low (l.low + l.left);
      counted : l.initial.steps ≤ l.steps;
      taken : 2 ^ (l.steps - l.initial.steps) * l.left ≤ l.count;
      most : 2 ^ (l.steps - l.initial.steps) ≤ 2 * l.count + 1;
      least : l.count < 2 ^ (l.steps - l.initial.steps) * (l.left + 1);
    }

abbrev pub decreases-loop-left : goal.decreases-loop-left
decreases-loop-left g l = l.left
