use Rattle.std.proofs.Common.{◌≡◌, ℕ, ◌<◌, ◌≤◌, length, get_or}
use Rattle.std.specs.Prelude.{vec_capacity}
use Rattle.ff_ids.specs.declared.TheConstants.{MEMBERS}
use Rattle.record_slots.specs.Slots.{no_entry}
use Rattle.record_slots.proofs.layout.no_entries.Given as goal

abbrev pub invariant-loop-number : goal.invariant-loop-number
invariant-loop-number l =
    record {
      count : length l.entries.items ≡ l.number;
      none : (k : ℕ) → k < l.number → get_or l.entries.items k (no_entry k) ≡ no_entry k;
      room : MEMBERS ≤ vec_capacity l.entries;
    }
