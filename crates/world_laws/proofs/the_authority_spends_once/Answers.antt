use Rattle.world_laws.proofs.Written.{authority-once}
use Rattle.world_laws.proofs.the_authority_spends_once.Goals as goal

pub returns : goal.returns
returns c = authority-once
