use Rattle.record_set.proofs.ListedLemmas.{IsSummary-of}
use Rattle.record_set.proofs.laws.a_page_is_a_summary.Goals as goal

pub returns : goal.returns
returns c held page noted below = IsSummary-of held page noted below
