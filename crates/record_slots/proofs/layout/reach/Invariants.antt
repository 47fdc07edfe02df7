use Rattle.std.proofs.Common.{◌≡◌, ℕ, ◌+◌, ◌-◌, ◌≤◌, None, length, get_or}
use Rattle.std.specs.Prelude.{vec_capacity, vec_len}
use Rattle.record_slots.specs.declared.layout.TheConstants.{SLOTS}
use Rattle.record_slots.proofs.layout.reach.Given as goal

abbrev pub invariant-growing : goal.invariant-growing
invariant-growing g l =
    record {
      few : length l.slots.items ≤ SLOTS;
      room : SLOTS ≤ vec_capacity l.slots;
      same : (k : ℕ) → get_or l.slots.items k None ≡ get_or l.fn.slots.items k None;
    }

abbrev pub decreases-growing : goal.decreases-growing
decreases-growing g l = l.slot + 1 - vec_len l.slots
