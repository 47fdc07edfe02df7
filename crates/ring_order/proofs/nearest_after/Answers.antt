use Rattle.ff_ids.specs.Views.{key_at}
use Rattle.ring_order.specs.Nearest.{keys_of}
use Rattle.ring_order.proofs.NearestLaws.{number_after-none, number_after-some}
use Rattle.ring_order.proofs.nearest_after.Goals as goal

pub returns-clause-none : goal.returns-clause-none
returns-clause-none g c = number_after-none c.args.ring.0 c.args.live.now (key_at c.args.ring.0 c.args.places.now c.args.member) c.nearest.result c.nearest.ensures.value

pub returns-clause-nearest : goal.returns-clause-nearest
returns-clause-nearest g c = number_after-some (keys_of c.args.ring.0 c.args.live.now) (key_at c.args.ring.0 c.args.places.now c.args.member) c.nearest.result c.nearest.ensures.value
