use Rattle.world_rules.proofs.Once.{nodes-once}
use Rattle.world_rules.proofs.nodes_spend_once.Goals as goal

pub returns : goal.returns
returns c = nodes-once
