use Rattle.node_rules.proofs.Stopping.{delivery-stops, leaving-stops, only-signatures, tick-stops, whole-calls}
use Rattle.node_rules.proofs.stopped_calls_end.Goals as goal

pub returns-clause-delivery : goal.returns-clause-delivery
returns-clause-delivery c = delivery-stops

pub returns-clause-tick : goal.returns-clause-tick
returns-clause-tick c = tick-stops

pub returns-clause-leaving : goal.returns-clause-leaving
returns-clause-leaving c = leaving-stops

pub returns-clause-only : goal.returns-clause-only
returns-clause-only c = only-signatures

pub returns-clause-others : goal.returns-clause-others
returns-clause-others c = whole-calls
