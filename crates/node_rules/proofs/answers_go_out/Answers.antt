use Rattle.node_rules.proofs.Handling.{sign-delivered, records-delivered, sent-delivered}
use Rattle.node_rules.proofs.answers_go_out.Goals as goal

pub returns-clause-told : goal.returns-clause-told
returns-clause-told c = sign-delivered

pub returns-clause-sent : goal.returns-clause-sent
returns-clause-sent c = sent-delivered

pub returns-clause-behind : goal.returns-clause-behind
returns-clause-behind c = records-delivered
