-- What the summary of a page says of the records that are held.
use Rattle.std.proofs.Common.{ℕ, ◌<◌, All}
use Rattle.ff_ids.specs.declared.TheConstants.{PAGES}
use Rattle.ff_ids.specs.Summaries.{IsSummary}
use Rattle.record_slots.proofs.ListedLemmas as slots
use Rattle.record_set.specs.Held.{Held}
use Rattle.record_set.specs.Pages.{body_of, summary_of, IsHeldEntry, AreNoted}

-- what the summary of a page names is held
pub All-listed_held : (held : Held) (page : ℕ) → All (IsHeldEntry held) (summary_of held page).listed
All-listed_held held page = slots.All-listed_held body_of held page

-- The summary of a page keeps to its page, in order of number.
pub IsSummary-of : (held : Held) (page : ℕ) → AreNoted held → page < PAGES → IsSummary (summary_of held page)
IsSummary-of held page known below = slots.IsSummary-of body_of held page known below
