use Rattle.world_laws.proofs.Living.{accepted-lived}
use Rattle.world_laws.proofs.what_is_accepted_is_lived.Goals as goal

pub returns : goal.returns
returns c = accepted-lived
