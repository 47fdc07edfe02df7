use Rattle.std.proofs.Common.{◌≡◌, ℕ, ◌≤◌, false, length}
use Rattle.monitor_rule.specs.Joined.{is_joined}
use Rattle.membership_tests.proofs.monitors.join_511.Given as goal

abbrev pub invariant-loop-number : goal.invariant-loop-number
invariant-loop-number l =
    record {
      rings : l.rings.rings ≡ 3;
      many : length l.rings.members ≡ l.number;
      absent : (m : ℕ) → l.number ≤ m → is_joined l.rings.members m ≡ false;
    }
