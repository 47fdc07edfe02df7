-- Summaries: what the entries of a page keep to.
use Rattle.std.specs.Prelude.{◌≡◌, ℕ, ◌<◌, ◌/◌, List, map, All}
use Rattle.std.specs.List.Sorted.{IsStrictlyIncreasing}
use Rattle.ff_ids.specs.declared.TheConstants.{PAGES, PAGE_MEMBERS}
use Rattle.ff_ids.specs.declared.summary.SummaryEntry.{SummaryEntry}
use Rattle.ff_ids.specs.declared.summary.Summary.{Summary}

-- The page of a member: the pages have as many members each.
abbrev pub page_of_member : ℕ → ℕ
page_of_member member = member / PAGE_MEMBERS

-- An entry of the page: its member is of the page, and without a note it names no mask and no rings.
pub record IsEntryOf (page : ℕ) (e : SummaryEntry) : Type 0 where
  pub in_page : page_of_member e.member ≡ page
  pub unnoted : e.epoch ≡ 0 → (e.mask.0 ≡ 0) × (e.rings ≡ 0)

abbrev pub members_of : List SummaryEntry → List ℕ
members_of entries = map (λ e. e.member) entries

-- One of the pages, with at most one entry for each of its members, in order of number.
pub record IsSummary (s : Summary) : Type 0 where
  pub page : s.page < PAGES
  pub listed : All (IsEntryOf s.page) s.listed
  pub rising : IsStrictlyIncreasing (members_of s.listed)
