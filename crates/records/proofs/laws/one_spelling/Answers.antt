use Rattle.records.proofs.Records.{records_one}
use Rattle.records.proofs.laws.one_spelling.Goals as goal

pub returns : goal.returns
returns c = records_one
