use Rattle.ff_ids.specs.declared.TheConstants.{MAX_RINGS}
use Rattle.record_set.specs.Pages.{rings_of}
use Rattle.ff_ids.proofs.BitLemmas.{bits-tell}
use Rattle.record_set.proofs.laws.rings_are_those_accused_on.Goals as goal

pub returns : goal.returns
unfolding rings_of
returns c held m r below = bits-tell _ MAX_RINGS r below
