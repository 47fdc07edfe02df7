use Rattle.world_laws.proofs.SignedFirst.{accepted-signed-first}
use Rattle.world_laws.proofs.accepted_was_signed_first.Goals as goal

pub returns : goal.returns
returns c = accepted-signed-first
