use Rattle.std.proofs.Common.{◌≡◌, ℕ, ◌<◌, None, length, slice_index_or}
use Rattle.ff_ids.specs.declared.TheConstants.{MAX_RINGS}
use Rattle.ff_ids.specs.Rings.{nearest_after}
use Rattle.ff_ids.specs.Views.{key_at}
use Rattle.monitor_rule.specs.Joined.{keys_on}
use Rattle.membership.proofs.kept.successors_of_last.Given as goal

abbrev pub invariant-loop-ring : goal.invariant-loop-ring
invariant-loop-ring l =
    (length l.next ≡ MAX_RINGS) × ((k : ℕ) → k < l.ring → slice_index_or l.next k None ≡ nearest_after (keys_on k l.rings.members) (key_at k l.places l.member))
