use Rattle.world_laws.proofs.FirstForged.{forgeries-first}
use Rattle.world_laws.proofs.forgeries_are_first.Goals as goal

pub returns : goal.returns
returns c = forgeries-first
