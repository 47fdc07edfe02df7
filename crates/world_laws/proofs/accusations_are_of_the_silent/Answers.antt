use Rattle.world_laws.proofs.Lawful.{accuse-silent}
use Rattle.world_laws.proofs.SignedBefore.{accepted-signed}
use Rattle.world_laws.proofs.accusations_are_of_the_silent.Goals as goal

pub returns-clause-signed : goal.returns-clause-signed
returns-clause-signed c = accuse-silent

pub returns-clause-accepted : goal.returns-clause-accepted
returns-clause-accepted c = accepted-signed
