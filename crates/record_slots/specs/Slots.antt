-- How what is held is kept: `SLOTS_EACH` slots for each member, of its certificate, its note, the accusations against it
-- by ring, and the one that removed it.
-- Behind the last slot that was written there may be none: what has no slot isn't held.
use Rattle.std.specs.Prelude.{◌≡◌, ℕ, ◌+◌, ◌*◌, ◌-◌, ◌/◌, ◌%◌, ◌<◌, ◌≤◌, ◌==◌, if◌then◌else◌, List, [], ◌∷◌, Option, Some, None, is_some, length, map, filter, slice_index_or}
use Rattle.std.specs.List.{range_with_len}
use Rattle.std.specs.FinMap.{from_entries}
use Rattle.ff_ids.specs.declared.TheConstants.{MAX_RINGS, MEMBERS}
use Rattle.ff_ids.specs.Masks.{bits_where}
use Rattle.ff_ids.specs.declared.summary.SummaryEntry.{SummaryEntry}
use Rattle.ff_ids.specs.declared.summary.RecordKey.{RecordKey}
use Rattle.ff_ids.specs.declared.summary.RecordKey.TheVariants as keys
use Rattle.record_slots.specs.declared.layout.TheConstants.{SLOTS, SLOTS_EACH}
use Rattle.records.specs.declared.Body.{Body}
use Rattle.record_slots.specs.Held.{HeldOf}
use Rattle.record_slots.specs.Pages.{note_in, entry_with}

abbrev pub Slot : Type 0 → Type 0
Slot X = Option X

abbrev pub slot_of : RecordKey → ℕ
slot_of (keys.Certificate m) = SLOTS_EACH * m
slot_of (keys.Note m) = SLOTS_EACH * m + 1
slot_of (keys.Accusation m ring) = SLOTS_EACH * m + 2 + ring.0
slot_of (keys.Removal m) = SLOTS_EACH * m + 2 + MAX_RINGS

-- the member of a key: of an accusation the accused
abbrev pub member_of : RecordKey → ℕ
member_of (keys.Certificate m) = m
member_of (keys.Note m) = m
member_of (keys.Accusation m ring) = m
member_of (keys.Removal m) = m

-- There is a slot for each ring below `MAX_RINGS`.
abbrev pub HasSlot : RecordKey → Type 0
HasSlot (keys.Certificate m) = Unit {0}
HasSlot (keys.Note m) = Unit {0}
HasSlot (keys.Accusation m ring) = ring.0 < MAX_RINGS
HasSlot (keys.Removal m) = Unit {0}

abbrev pub key_of_part : ℕ → ℕ → RecordKey
key_of_part m part =
    if part == 0 then keys.Certificate m
    else if part == 1 then keys.Note m
    else if part == 2 + MAX_RINGS then keys.Removal m
    else keys.Accusation m (record { 0 = part - 2 })

-- the key of the slot
abbrev pub key_at : ℕ → RecordKey
key_at slot = key_of_part (slot / SLOTS_EACH) (slot % SLOTS_EACH)

-- what the slots hold, where the first has this number
abbrev pub taken_from : {X : Type 0} → ℕ → List (Slot X) → List (RecordKey × X)
taken_from slot [] = []
taken_from slot (None ∷ slots) = taken_from (slot + 1) slots
taken_from slot (Some x ∷ slots) = (key_at slot, x) ∷ taken_from (slot + 1) slots

abbrev pub held_in : {X : Type 0} → List (Slot X) → HeldOf X
held_in slots = from_entries (taken_from 0 slots)

-- The entry of the member, made of its slots.
abbrev pub entry_in : {X : Type 0} → (X → Body) → List (Slot X) → ℕ → SummaryEntry
entry_in body slots m = entry_with m (note_in body (slice_index_or slots (SLOTS_EACH * m + 1) None)) (bits_where (λ r. is_some (slice_index_or slots (SLOTS_EACH * m + 2 + r) None)) MAX_RINGS)

-- the entry of a member of which nothing is held
abbrev pub no_entry : ℕ → SummaryEntry
no_entry m = record { member = m; epoch = 0; mask = record { 0 = 0 }; rings = 0 }

-- There are no more slots than keys, and for each member the entry that its slots make.
pub record IsReady {X : Type 0} (body : X → Body) (slots : List (Slot X)) (entries : List SummaryEntry) : Type 0 where
  pub slots_few : length slots ≤ SLOTS
  pub entries_all : length entries ≡ MEMBERS
  pub ready : (m : ℕ) → m < MEMBERS → slice_index_or entries m (no_entry m) ≡ entry_in body slots m

-- The ready entries of those of so many members, from this number on, whose certificate is held.
unfoldable pub ready_entries : {X : Type 0} → List (Slot X) → List SummaryEntry → ℕ → ℕ → List SummaryEntry
ready_entries slots entries first count = map (λ m. slice_index_or entries m (no_entry m)) (filter (λ m. is_some (slice_index_or slots (SLOTS_EACH * m) None)) (range_with_len first count))
