use Rattle.shown_laws.proofs.RunLemmas.{own-runs}
use Rattle.shown_laws.proofs.own_runs_are_shown.Goals as goal

pub returns : goal.returns
returns c = own-runs c.own_journals_are_shown.ensures
