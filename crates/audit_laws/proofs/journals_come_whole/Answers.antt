use Rattle.audit_laws.proofs.ComingLemmas.{journals-whole}
use Rattle.audit_laws.proofs.journals_come_whole.Goals as goal

pub returns : goal.returns
returns c = journals-whole
