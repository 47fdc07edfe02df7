use Rattle.ring_order.proofs.NearestLaws.{nearest_before-none, nearest_after-none}
use Rattle.ring_order.proofs.laws.nobody_is_answered.Goals as goal

pub returns-clause-before : goal.returns-clause-before
returns-clause-before c = nearest_before-none

pub returns-clause-after : goal.returns-clause-after
returns-clause-after c = nearest_after-none
