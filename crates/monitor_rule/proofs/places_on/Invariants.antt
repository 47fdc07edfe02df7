use Rattle.std.proofs.Common.{◌≡◌, ℕ, ◌<◌, length, slice_index, slice_index_or}
use Rattle.ff_ids.specs.declared.TheConstants.{MAX_RINGS}
use Rattle.ff_ids.specs.Views.{key_at}
use Rattle.monitor_rule.specs.Sorted.{RingOrder, IsBetween}
use Rattle.monitor_rule.proofs.places_on.Given as goal

abbrev pub invariant-loop-index : goal.invariant-loop-index
invariant-loop-index l =
    (length l.found ≡ MAX_RINGS) × ((k : ℕ) (d : RingOrder) → k < l.index → IsBetween l.slots (slice_index_or l.rows k d) (key_at (slice_index_or l.rows k d).ring l.places l.member) (slice_index l.found k) (slice_index l.found k))
