use Rattle.world_laws.proofs.Walking.{texts-come}
use Rattle.world_laws.proofs.texts_come_to_worlds.Goals as goal

pub returns : goal.returns
returns c = texts-come
