use Rattle.world_laws.proofs.Written.{spending-told}
use Rattle.world_laws.proofs.spending_is_told.Goals as goal

pub returns : goal.returns
returns c = spending-told
