use Rattle.records.proofs.Telling.{serves}
use Rattle.records.proofs.laws.checked_serves_its_group.Goals as goal

pub returns : goal.returns
returns c = serves
