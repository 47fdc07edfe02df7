use Rattle.std.proofs.Common.{refl}
use Rattle.ring_order.specs.Rows.{unused, unused_row, is_plain}
use Rattle.ring_order.proofs.Places.new.Goals as goal

pub invariant_of-result : goal.invariant_of-result
unfolding unused unused_row is_plain
invariant_of-result c = refl
