use Rattle.life_laws.proofs.SameLemmas.{same-view, one-view}
use Rattle.life_laws.proofs.one_view.Goals as goal

pub returns-clause-states : goal.returns-clause-states
returns-clause-states c = same-view

pub returns-clause-lives : goal.returns-clause-lives
returns-clause-lives c = one-view
