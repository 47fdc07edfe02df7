-- What one side of an exchange holds of a page and the other side lacks, by the entries of both sides' summaries.
use Rattle.std.specs.Prelude.{◌≡◌, ℕ, Bool, true, false, ◌&&◌, not, ◌==◌, nat_lt, List, ◌++◌, Option, Some, None, is_some, map, filter, find, take}
use Rattle.std.specs.List.{flat_map}
use Rattle.std.specs.Ordering.{nat_cmp, ordering_then, is_lt}
use Rattle.std.specs.declared.cmp.Ordering.{Ordering}
use Rattle.std.specs.declared.cmp.Ordering.TheVariants.{Less, Equal, Greater}
use Rattle.ff_ids.specs.declared.TheConstants.{MASK_BITS}
use Rattle.ff_ids.specs.declared.summary.SummaryEntry.{SummaryEntry}
use Rattle.ff_ids.specs.declared.summary.RecordKey.{RecordKey}
use Rattle.ff_ids.specs.declared.summary.RecordKey.TheVariants.{Certificate, Note, Accusation}
use Rattle.ff_ids.specs.Masks.{enables, enabled}

-- The entry of the member, or none where it has none.
abbrev pub entry_of : List SummaryEntry → ℕ → Option SummaryEntry
entry_of entries m = find (λ e. e.member == m) entries

-- Entries are ordered by epoch, and those of one epoch by mask.
abbrev pub entry_cmp : SummaryEntry → SummaryEntry → Ordering
entry_cmp a b = ordering_then (nat_cmp a.epoch b.epoch) (nat_cmp a.mask.0 b.mask.0)

-- The entry there is missing, or less than the one here.
abbrev pub is_behind : Option SummaryEntry → SummaryEntry → Bool
is_behind None here = true
is_behind (Some there) here = is_lt (entry_cmp there here)

-- The accusation on the ring is wanted there, where the entry there compares so with the one here and names these rings.
abbrev pub wants_ring : Ordering → ℕ → ℕ → Bool
wants_ring Less rings ring = true
wants_ring Equal rings ring = not (enables rings ring)
wants_ring Greater rings ring = false

-- The side of the entry there lacks the accusation on the ring: each where its entry is missing or less, and
-- those outside its rings where it is equal.
abbrev pub lacks_ring : Option SummaryEntry → SummaryEntry → ℕ → Bool
lacks_ring None here ring = true
lacks_ring (Some there) here ring = wants_ring (entry_cmp there here) there.rings ring

-- the certificate of each member without an entry there
abbrev pub certificates_lacking : List SummaryEntry → List SummaryEntry → List RecordKey
certificates_lacking mine theirs = map (λ e. Certificate e.member) (filter (λ e. not (is_some (entry_of theirs e.member))) mine)

-- the note of each member that has a note here, and whose entry there is missing or less
abbrev pub notes_lacking : List SummaryEntry → List SummaryEntry → List RecordKey
notes_lacking mine theirs = map (λ e. Note e.member) (filter (λ e. nat_lt 0 e.epoch && is_behind (entry_of theirs e.member) e) mine)

-- the keys of accusations against the member on these rings
abbrev pub keys_against : ℕ → List ℕ → List RecordKey
keys_against member rings = map (λ r. Accusation member (record { 0 = r })) rings

-- the accusations against the member of the entry here, in order of the rings
abbrev pub rings_lacking : Option SummaryEntry → SummaryEntry → List RecordKey
rings_lacking there here = keys_against here.member (filter (lacks_ring there here) (enabled MASK_BITS here.rings))

-- the accusations against each member
abbrev pub accusations_lacking : List SummaryEntry → List SummaryEntry → List RecordKey
accusations_lacking mine theirs = flat_map (λ e. rings_lacking (entry_of theirs e.member) e) mine

-- Certificates, then notes, then accusations, each in the order of the entries here, then of the rings.
abbrev pub differ : List SummaryEntry → List SummaryEntry → List RecordKey
differ mine theirs = certificates_lacking mine theirs ++ (notes_lacking mine theirs ++ accusations_lacking mine theirs)

-- ---- what calls leave

-- What was held, and a front of what was to come.
pub record IsFront (held left coming : List RecordKey) : Type 0 where
  pub count : ℕ
  pub grown : left ≡ held ++ take count coming
