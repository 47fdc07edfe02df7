use Rattle.world_laws.proofs.Walking.{texts-lawful}
use Rattle.world_laws.proofs.texts_are_lawful.Goals as goal

pub returns : goal.returns
returns c = texts-lawful
