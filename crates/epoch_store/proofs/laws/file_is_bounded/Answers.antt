use Rattle.epoch_store.proofs.LawLemmas.{has_few_entries, has_room, is_bounded}
use Rattle.epoch_store.proofs.laws.file_is_bounded.Goals as goal

pub returns-clause-few : goal.returns-clause-few
returns-clause-few c = has_few_entries

pub returns-clause-room : goal.returns-clause-room
returns-clause-room c = has_room

pub returns-clause-bounded : goal.returns-clause-bounded
returns-clause-bounded c = is_bounded
