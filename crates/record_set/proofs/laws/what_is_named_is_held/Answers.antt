use Rattle.record_set.proofs.ListedLemmas.{All-listed_held}
use Rattle.record_set.proofs.laws.what_is_named_is_held.Goals as goal

pub returns : goal.returns
returns c held page = All-listed_held held page
