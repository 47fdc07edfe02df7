use Rattle.world_laws.proofs.Keyed.{keys-verify}
use Rattle.world_laws.proofs.keys_verify.Goals as goal

pub returns : goal.returns
returns c = keys-verify
