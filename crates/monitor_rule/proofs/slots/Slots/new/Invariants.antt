use Rattle.std.proofs.Common.{◌≡◌, ℕ, None, length, slice_index_or}
use Rattle.monitor_rule.proofs.slots.Slots.new.Given as goal

abbrev pub invariant-loop-number : goal.invariant-loop-number
invariant-loop-number l =
    (length l.hinted.items ≡ l._number) × ((n : ℕ) → slice_index_or l.hinted.items n None ≡ None)
