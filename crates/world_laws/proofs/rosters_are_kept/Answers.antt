use Rattle.world_laws.proofs.Lawful.{rosters}
use Rattle.world_laws.proofs.rosters_are_kept.Goals as goal

pub returns : goal.returns
returns c = rosters
