use Rattle.node_rules.proofs.Spelled.{spelled-read}
use Rattle.node_rules.proofs.Readable.{sent-read, told-read}
use Rattle.node_rules.proofs.sent_records_are_read.Goals as goal

pub returns-clause-sent : goal.returns-clause-sent
returns-clause-sent c = sent-read

pub returns-clause-told : goal.returns-clause-told
returns-clause-told c = told-read

pub returns-clause-spelled : goal.returns-clause-spelled
returns-clause-spelled c = spelled-read
