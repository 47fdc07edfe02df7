use Rattle.node_rules.proofs.OwnRecords.{own-records}
use Rattle.node_rules.proofs.own_records_verify.Goals as goal

pub returns : goal.returns
returns c = own-records
