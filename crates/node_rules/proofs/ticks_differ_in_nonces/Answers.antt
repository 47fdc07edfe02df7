use Rattle.node_rules.proofs.PingsTold.{differ, told-renonced, shown-told}
use Rattle.node_rules.proofs.ticks_differ_in_nonces.Goals as goal

pub returns-clause-alike : goal.returns-clause-alike
returns-clause-alike c = differ

pub returns-clause-shown : goal.returns-clause-shown
returns-clause-shown c = shown-told

pub returns-clause-told : goal.returns-clause-told
returns-clause-told c = told-renonced
