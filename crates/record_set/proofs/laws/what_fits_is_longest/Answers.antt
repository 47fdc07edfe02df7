use Rattle.record_set.proofs.PickLemmas.{fitting-longest}
use Rattle.record_set.proofs.laws.what_fits_is_longest.Goals as goal

pub returns : goal.returns
returns c room records = fitting-longest room records
