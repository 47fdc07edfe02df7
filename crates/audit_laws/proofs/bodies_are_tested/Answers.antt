use Rattle.audit_laws.proofs.BodyLemmas.{body-is, same-itself}
use Rattle.audit_laws.proofs.bodies_are_tested.Goals as goal

pub returns : goal.returns
returns c = λ one other. record { found = body-is one other; finds = same-itself one }
