use Rattle.world_laws.proofs.Flowing.{flows-go-on, others-none}
use Rattle.world_laws.proofs.FlowWalks.{each-once}
use Rattle.world_laws.proofs.flows_take_each_once.Goals as goal

pub returns-clause-order : goal.returns-clause-order
returns-clause-order c = flows-go-on

pub returns-clause-others : goal.returns-clause-others
returns-clause-others c = others-none

pub returns-clause-once : goal.returns-clause-once
returns-clause-once c = each-once
