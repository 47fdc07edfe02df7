use Rattle.ring_order.proofs.NearestLaws.{nearest_before-some, nearest_after-some}
use Rattle.ring_order.proofs.laws.answered_is_nearest.Goals as goal

pub returns-clause-before : goal.returns-clause-before
returns-clause-before c = nearest_before-some

pub returns-clause-after : goal.returns-clause-after
returns-clause-after c = nearest_after-some
