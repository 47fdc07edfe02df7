use Rattle.world_laws.proofs.Lawful.{never-ahead}
use Rattle.world_laws.proofs.own_ahead_never_comes.Goals as goal

pub returns : goal.returns
returns c = never-ahead
