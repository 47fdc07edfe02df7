use Rattle.std.proofs.Common.{◌≡◌, ℕ, ◌+◌, ◌-◌, ◌≤◌, None, length, get_or}
use Rattle.std.specs.Prelude.{vec_capacity, vec_len}
use Rattle.ff_ids.specs.declared.TheConstants.{MEMBERS}
use Rattle.monitor_rule.proofs.slots.reach.Given as goal

abbrev pub invariant-growing : goal.invariant-growing
invariant-growing l =
    record {
      few : length l.slots.items ≤ MEMBERS;
      room : MEMBERS ≤ vec_capacity l.slots;
      same : (k : ℕ) → get_or l.slots.items k None ≡ get_or l.fn.slots.items k None;
    }

abbrev pub decreases-growing : goal.decreases-growing
decreases-growing l = l.index + 1 - vec_len l.slots
