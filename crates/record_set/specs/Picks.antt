-- What may be put, and what fits of a list of records.
use Rattle.std.specs.Prelude.{◌≡◌, ℕ, ◌<◌, ◌≤◌, List, ◌++◌, length, take}
use Rattle.std.specs.List.{flat_map}
use Rattle.ff_ids.specs.declared.summary.RecordKey.{RecordKey}
use Rattle.ff_ids.specs.Masks.{ring_count}
use Rattle.records.specs.declared.Body.{Body}
use Rattle.records.specs.declared.Body.TheVariants as bodies
use Rattle.records.specs.Spelling.{record_bytes}
use Rattle.records.specs.Signing.{CheckedRecord}
use Rattle.record_set.specs.Held.{Held}
use Rattle.record_slots.specs.Picks as slots

-- ---- what a caller sees to

-- The ring of an accusation is one of those of a group of tolerance t.
abbrev pub HasRing : ℕ → Body → Type 0
HasRing t (bodies.Certificate c) = Unit {0}
HasRing t (bodies.Note n) = Unit {0}
HasRing t (bodies.Accusation a) = a.ring.0 < ring_count t

-- ---- what fits

-- the records under the keys that have one, in the order of the keys
abbrev pub held_all : Held → List RecordKey → List CheckedRecord
held_all held ks = slots.held_all held ks

-- one record's spelling behind another's
abbrev pub spelled : List CheckedRecord → List ℕ
spelled records = flat_map (λ c. record_bytes c.rec) records

-- how many bytes the record's spelling has
abbrev pub long : CheckedRecord → ℕ
long c = length (record_bytes c.rec)

-- How many of the records fit into the room, one behind the other, up to the first that doesn't.
abbrev pub fitting : ℕ → List CheckedRecord → ℕ
fitting room records = slots.fitting long room records

-- So many of the records are the longest front of them that fits.
pub record IsLongestFit (room : ℕ) (records : List CheckedRecord) (count : ℕ) : Type 0 where
  pub within : count ≤ length records
  pub fits : length (spelled (take count records)) ≤ room
  pub longest : (more : ℕ) → count < more → more ≤ length records → room < length (spelled (take more records))

-- The bytes that were held, and a front of the records that were to come, each whole.
pub record IsFront (before after : List ℕ) (records : List CheckedRecord) : Type 0 where
  pub count : ℕ
  pub within : count ≤ length records
  pub grown : after ≡ before ++ spelled (take count records)
