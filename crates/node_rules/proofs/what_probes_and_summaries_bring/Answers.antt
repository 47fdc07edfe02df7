use Rattle.node_rules.proofs.Sendings.{ping-brings, pong-brings, summary-brings}
use Rattle.node_rules.proofs.what_probes_and_summaries_bring.Goals as goal

pub returns-clause-ping : goal.returns-clause-ping
returns-clause-ping c = ping-brings

pub returns-clause-pong : goal.returns-clause-pong
returns-clause-pong c = pong-brings

pub returns-clause-summary : goal.returns-clause-summary
returns-clause-summary c = summary-brings
