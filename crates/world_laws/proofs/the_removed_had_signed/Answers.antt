use Rattle.world_laws.proofs.AsCalled.{removed-signed}
use Rattle.world_laws.proofs.the_removed_had_signed.Goals as goal

pub returns : goal.returns
returns c = removed-signed
