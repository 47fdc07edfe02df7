use Rattle.node_rules.proofs.Gains.{lived-delivered, lived-ticked}
use Rattle.node_rules.proofs.Leaving.{leaving-lived}
use Rattle.node_rules.proofs.what_lives_gain.Goals as goal

pub returns-clause-records : goal.returns-clause-records
returns-clause-records c = lived-delivered

pub returns-clause-tick : goal.returns-clause-tick
returns-clause-tick c = lived-ticked

pub returns-clause-leaving : goal.returns-clause-leaving
returns-clause-leaving c = leaving-lived
