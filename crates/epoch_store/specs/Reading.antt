-- Reading the file of a store from its front on: the state that it stands for, or the place where it is not
-- a store of this tag.
use Rattle.std.specs.Prelude.{◌≡◌, ◌≢◌, ℕ, ◌+◌, ◌^◌, ◌<◌, ◌⊎◌, ◌&&◌, ◌==◌, nat_eq, nat_lt, nat_le, Bool, true, false, if◌then◌else◌, Option, None, Some, is_some, List, [], ◌∷◌, ◌++◌, length, take, drop, codes, slice_index, Result, Ok, Err}
use Rattle.std.specs.List.{common_prefix_len, slice_get}
use Rattle.ff_ids.specs.declared.TheConstants.{MAX_RINGS}
use Rattle.epoch_store.specs.declared.Stored.{Stored}
use Rattle.epoch_store.specs.declared.entry.Entry.{Entry}
use Rattle.epoch_store.specs.declared.entry.Gate.{Gate}
use Rattle.epoch_store.specs.declared.entry.Gate.TheVariants.{Shut, Open}
use Rattle.epoch_store.specs.declared.seat.Seat.{Seat}
use Rattle.epoch_store.specs.declared.seat.TheConstants.{NARROW_RINGS}
use Rattle.epoch_store.specs.Seat.{behind, first_seat, header_length, moved_length, width_by}
use Rattle.epoch_store.specs.Store.{mark, mask_bytes, spelled}

-- what a reading comes to: the state and the seat behind it; the place where the file breaks; or the place where its
-- tag is another, and the byte there
pub data Reading : Type 0 where
  Finds : Stored → Seat → Reading
  Breaks : ℕ → Reading
  Differs : ℕ → ℕ → Reading

-- ---- the head

-- the header's byte 7 tells the width of the entries
abbrev pub width_of : Option ℕ → Option Bool
width_of None = None
width_of (Some byte) = if byte == 49 then Some false else (if byte == 50 then Some true else None)

abbrev pub head_by : Bool → Option Bool → List ℕ → ℕ → Result Seat ℕ
head_by false wide head good = Err good
head_by true None head good = Err 7
head_by true (Some wide) head good = if nat_lt (length head) header_length then Err (length head) else Ok (first_seat wide (drop 8 head))

-- the first seat; or the place where the head of a file breaks: the first of its first 8 bytes that is wrong or
-- missing, or else its end, where that comes before the tag's
abbrev pub head_seat : List ℕ → Result Seat ℕ
head_seat head = let good = common_prefix_len nat_eq (codes "FFSTORE") head in head_by (nat_le 7 good) (width_of (slice_get head 7)) head good

-- ---- the fields of an entry

-- the first rule of a list that is broken, by the place of its field
abbrev pub first_broken : List (ℕ × Bool) → Option ℕ
first_broken [] = None
first_broken (rule ∷ rules) = if rule.1 then first_broken rules else Some rule.0

abbrev pub is_above : Option Stored → ℕ → Bool
is_above None next = true
is_above (Some before) next = nat_lt before.next next

abbrev pub is_at_least : Option Stored → ℕ → Bool
is_at_least None epoch = true
is_at_least (Some before) epoch = nat_le before.epoch epoch

-- the bits that a mask of an entry may have
abbrev pub mask_room : Bool → ℕ
mask_room false = NARROW_RINGS
mask_room true = MAX_RINGS

-- a mask has no bit too many; a mark stands in no first entry
abbrev pub mask_stands : Bool → Option Stored → Option (List ℕ) → ℕ → Bool
mask_stands wide before None mask = nat_lt mask (2 ^ mask_room wide)
mask_stands wide before (Some tag) mask = is_some before

-- the mask behind a migration entry's tag has no bit too many
abbrev pub own_mask_stands : Option (List ℕ) → ℕ → Bool
own_mask_stands None mask = true
own_mask_stands (Some tag) mask = nat_lt mask (2 ^ MAX_RINGS)

-- the field of an entry that is wrong after the entry before, as the number of bytes from the gate to it
abbrev pub wrong_field : Bool → Option Stored → Entry → Option ℕ
wrong_field wide before e = first_broken (
    (1, nat_le e.kept.next 32768 && is_above before e.kept.next) ∷
    (5, nat_le e.kept.epoch e.kept.next && is_at_least before e.kept.epoch) ∷
    (13, mask_stands wide before e.moved e.kept.mask.0) ∷
    (width_by wide + 32, own_mask_stands e.moved e.kept.mask.0) ∷ [])

-- the state of the last entry, if there is one
abbrev pub last_kept : List Entry → Option Stored
last_kept [] = None
last_kept (e ∷ older) = Some e.kept

-- ---- what stands at a gate

-- the number above all masks that so many bytes hold
abbrev pub mask_end : Bool → ℕ
mask_end false = 2 ^ 32
mask_end true = 2 ^ 64

-- the bytes hold the mask, which isn't the mark; a migration entry has a tag, and eight bytes hold its mask
abbrev pub FitsMask : Bool → Option (List ℕ) → ℕ → Type 0
FitsMask wide None mask = (mask < mask_end wide) × (mask ≢ mark wide)
FitsMask wide (Some tag) mask = (mask < 2 ^ 64) × (length tag ≡ 32)

-- the bytes from a gate on begin with an open gate and this entry
pub record IsOpenEntry (wide : Bool) (bytes : List ℕ) (e : Entry) : Type 0 where
  pub rest : List ℕ
  pub begins : bytes ≡ 1 ∷ (spelled wide e ++ rest)
  pub next_fits : e.kept.next < 2 ^ 32
  pub epoch_fits : e.kept.epoch < 2 ^ 64
  pub mask_fits : FitsMask wide e.moved e.kept.mask.0

-- the bytes from a gate on begin with a closed gate
pub record IsClosed (bytes : List ℕ) : Type 0 where
  pub gate : ℕ
  pub rest : List ℕ
  pub begins : bytes ≡ gate ∷ rest
  pub closed : gate ≢ 1

-- the bytes from a gate on begin with an open gate, an entry's numbers and the mark
pub record IsMarked (wide : Bool) (bytes : List ℕ) : Type 0 where
  pub before : List ℕ
  pub rest : List ℕ
  pub twelve : length before ≡ 12
  pub begins : bytes ≡ 1 ∷ (before ++ (mask_bytes wide (mark wide) ++ rest))

-- the bytes end before the gate and its entry do
pub record IsCut (wide : Bool) (bytes : List ℕ) : Type 0 where
  pub gate_open : (bytes ≡ []) ⊎ ((rest : List ℕ) × (bytes ≡ 1 ∷ rest))
  pub short : (length bytes < width_by wide) ⊎ (IsMarked wide bytes × (length bytes < width_by wide + moved_length))

-- what stands at a gate, these being the bytes of the file from there on, and this the state of the entry before: the
-- first gate must be open. Else how many bytes from the gate on the file breaks
abbrev pub Stands : Bool → Option Stored → List ℕ → Result Gate ℕ → Type 0
Stands wide before bytes (Ok (Shut state)) = IsClosed bytes × (before ≡ Some state)
Stands wide before bytes (Ok (Open e)) = IsOpenEntry wide bytes e × (wrong_field wide before e ≡ None)
Stands wide before bytes (Err at) =
    (IsClosed bytes × (before ≡ None) × (at ≡ 0))
    ⊎ ((IsCut wide bytes × (at ≡ length bytes))
    ⊎ ((e : Entry) × IsOpenEntry wide bytes e × (wrong_field wide before e ≡ Some at)))

-- what stands in a seat of the file
abbrev pub StandsIn : List ℕ → Option Stored → Seat → Result Gate ℕ → Type 0
StandsIn image before seat result = Stands seat.wide before (drop seat.gate image) result

-- ---- the reading

abbrev pub closes_by : ℕ → Stored → Seat → Reading
closes_by same state seat = if nat_lt same 32 then Differs (seat.tag_place + same) (slice_index seat.tag same) else Finds state seat

-- what a reading comes to at the closed gate: the tag in force there is the asked one, or it differs
abbrev pub closes : List ℕ → Stored → Seat → Reading
closes tag state seat = closes_by (common_prefix_len nat_eq tag seat.tag) state seat

-- reading from a seat on, behind this state
pub data ReadsFrom (tag image : List ℕ) : Option Stored → Seat → Reading → Type 0 where
  ends : (before : Option Stored) (seat : Seat) (state : Stored) → StandsIn image before seat (Ok (Shut state)) → ReadsFrom tag image before seat (closes tag state seat)
  breaks : (before : Option Stored) (seat : Seat) (at : ℕ) → StandsIn image before seat (Err at) → ReadsFrom tag image before seat (Breaks (seat.gate + at))
  goes : (before : Option Stored) (seat : Seat) (e : Entry) (reading : Reading) → StandsIn image before seat (Ok (Open e)) → ReadsFrom tag image (Some e.kept) (behind seat e) reading
      → ReadsFrom tag image before seat reading

abbrev pub ReadsBehind : List ℕ → List ℕ → Result Seat ℕ → Reading → Type 0
ReadsBehind tag image (Ok first) reading = ReadsFrom tag image None first reading
ReadsBehind tag image (Err place) reading = reading ≡ Breaks place

-- reading a file
abbrev pub Reads : List ℕ → List ℕ → Reading → Type 0
Reads tag image reading = ReadsBehind tag image (head_seat (take header_length image)) reading
