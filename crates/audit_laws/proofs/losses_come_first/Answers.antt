use Rattle.audit_laws.proofs.ComingLemmas.{losses-first, nothing-lost}
use Rattle.audit_laws.proofs.losses_come_first.Goals as goal

pub returns : goal.returns
returns c = record { lost = losses-first; kept = nothing-lost }
