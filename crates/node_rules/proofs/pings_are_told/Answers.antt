use Rattle.node_rules.proofs.PingsTold.{pings-apart, nonces-shown, told-pings}
use Rattle.node_rules.proofs.pings_are_told.Goals as goal

pub returns-clause-each : goal.returns-clause-each
returns-clause-each c = told-pings

pub returns-clause-apart : goal.returns-clause-apart
returns-clause-apart c = pings-apart

pub returns-clause-nonce : goal.returns-clause-nonce
returns-clause-nonce c = nonces-shown
