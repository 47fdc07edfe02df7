use Rattle.ring_order.proofs.NearestLaws.{nearest_before-same, nearest_after-same}
use Rattle.ring_order.proofs.laws.order_is_free.Goals as goal

pub returns-clause-before : goal.returns-clause-before
returns-clause-before c = nearest_before-same

pub returns-clause-after : goal.returns-clause-after
returns-clause-after c = nearest_after-same
