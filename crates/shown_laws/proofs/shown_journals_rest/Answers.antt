use Rattle.shown_laws.proofs.RestLemmas.{own-certified, shown-rest}
use Rattle.shown_laws.proofs.shown_journals_rest.Goals as goal

pub returns-clause-rest : goal.returns-clause-rest
returns-clause-rest c = shown-rest

pub returns-clause-certified : goal.returns-clause-certified
returns-clause-certified c = own-certified
