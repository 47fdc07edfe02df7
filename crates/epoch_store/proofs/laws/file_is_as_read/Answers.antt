use Rattle.epoch_store.proofs.LawLemmas.{is_one_store, reads_as_it_is}
use Rattle.epoch_store.proofs.laws.file_is_as_read.Goals as goal

pub returns-clause-read : goal.returns-clause-read
returns-clause-read c = reads_as_it_is

pub returns-clause-one : goal.returns-clause-one
returns-clause-one c = is_one_store
