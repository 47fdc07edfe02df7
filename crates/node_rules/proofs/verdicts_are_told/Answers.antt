use Rattle.node_rules.proofs.Handling.{took-delivered}
use Rattle.node_rules.proofs.Stopping.{verdicts-stop}
use Rattle.node_rules.proofs.verdicts_are_told.Goals as goal

pub returns-clause-whole : goal.returns-clause-whole
returns-clause-whole c = took-delivered

pub returns-clause-stopped : goal.returns-clause-stopped
returns-clause-stopped c = verdicts-stop
