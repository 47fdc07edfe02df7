use Rattle.world_laws.proofs.Removing.{removals-verified, told-removals-verified}
use Rattle.world_laws.proofs.removals_are_verified.Goals as goal

pub returns-clause-lived : goal.returns-clause-lived
returns-clause-lived c = removals-verified

pub returns-clause-told : goal.returns-clause-told
returns-clause-told c = told-removals-verified
