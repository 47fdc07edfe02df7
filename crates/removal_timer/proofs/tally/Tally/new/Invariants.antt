use Rattle.std.proofs.Common.{◌≡◌, ℕ, length, slice_index_or}
use Rattle.removal_timer.proofs.tally.Tally.new.Given as goal

abbrev pub invariant-loop-number : goal.invariant-loop-number
invariant-loop-number l = (length l.counts.items ≡ l._number) × ((n : ℕ) → slice_index_or l.counts.items n 0 ≡ 0)
