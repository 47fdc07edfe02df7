use Rattle.world_rules.proofs.SoFar.{come-so-far}
use Rattle.world_rules.proofs.calls_come_so_far.Goals as goal

pub returns : goal.returns
returns c = come-so-far
