use Rattle.turn_laws.proofs.JournalLemmas.{journals-rest}
use Rattle.turn_laws.proofs.journals_rest_on_lives.Goals as goal

pub returns : goal.returns
returns c = journals-rest
