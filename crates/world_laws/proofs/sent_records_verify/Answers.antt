use Rattle.world_laws.proofs.Sent.{sent-verify}
use Rattle.world_laws.proofs.sent_records_verify.Goals as goal

pub returns : goal.returns
returns c = sent-verify
