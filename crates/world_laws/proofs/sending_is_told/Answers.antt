use Rattle.world_laws.proofs.Written.{sending-told}
use Rattle.world_laws.proofs.sending_is_told.Goals as goal

pub returns : goal.returns
returns c = sending-told
