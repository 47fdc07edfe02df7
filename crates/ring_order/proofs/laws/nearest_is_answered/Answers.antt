use Rattle.ring_order.proofs.NearestLaws.{nearest_before-is, nearest_after-is}
use Rattle.ring_order.proofs.laws.nearest_is_answered.Goals as goal

pub returns-clause-before : goal.returns-clause-before
returns-clause-before c = nearest_before-is

pub returns-clause-after : goal.returns-clause-after
returns-clause-after c = nearest_after-is
