use Rattle.std.proofs.Common.{◌≡◌, ℕ, length, slice_index_or}
use Rattle.removal_timer.proofs.tally.Marks.new.Given as goal

abbrev pub invariant-loop-number : goal.invariant-loop-number
invariant-loop-number l = (length l.masks.items ≡ l._number) × ((n : ℕ) → slice_index_or l.masks.items n 0 ≡ 0)
