use Rattle.shown_laws.proofs.MainLemmas.{own-journals}
use Rattle.shown_laws.proofs.own_journals_are_shown.Goals as goal

pub returns : goal.returns
returns c = own-journals c.own_records_verify.ensures
