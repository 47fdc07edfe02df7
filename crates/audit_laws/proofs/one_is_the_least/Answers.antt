use Rattle.audit_laws.proofs.LearnedLemmas.{least-extends}
use Rattle.audit_laws.proofs.one_is_the_least.Goals as goal

pub returns : goal.returns
returns c = least-extends
