use Rattle.records.proofs.Telling.{signed-tell}
use Rattle.records.proofs.laws.signed_bytes_tell.Goals as goal

pub returns : goal.returns
returns c = signed-tell
