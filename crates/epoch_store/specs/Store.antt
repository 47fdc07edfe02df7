-- The file of a store: a header with a tag, and then entries, each behind an open gate, up to a closed one.
use Rattle.std.specs.Prelude.{◌≡◌, ◌≢◌, ℕ, ◌+◌, ◌^◌, ◌<◌, ◌≤◌, ◌⊎◌, Bool, true, false, Option, None, Some, List, [], ◌∷◌, ◌++◌, length, codes}
use Rattle.std.specs.Int.{w32, w64, to_be_bytes}
use Rattle.ff_ids.specs.declared.TheConstants.{MAX_RINGS}
use Rattle.ff_ids.specs.declared.Mask.{Mask}
use Rattle.epoch_store.specs.declared.Stored.{Stored}
use Rattle.epoch_store.specs.declared.entry.Entry.{Entry}
use Rattle.epoch_store.specs.declared.seat.Seat.{Seat}
use Rattle.epoch_store.specs.declared.seat.TheConstants.{NARROW_RINGS}
use Rattle.epoch_store.specs.Seat.{entry_for, first_seat, made_first, seat_behind, seat_from}
use Rattle.ports.specs.Disk.{Moment, Leaves, settled}

-- ---- bytes

-- a mask in an entry has four bytes, or eight in a wide one
abbrev pub mask_bytes : Bool → ℕ → List ℕ
mask_bytes false mask = to_be_bytes w32 mask
mask_bytes true mask = to_be_bytes w64 mask

-- what stands in the place of a migration entry's mask: all bits are set
abbrev pub mark : Bool → ℕ
mark false = 4294967295
mark true = 18446744073709551615

-- the next index and the epoch
abbrev pub numbers : Stored → List ℕ
numbers s = to_be_bytes w32 s.next ++ to_be_bytes w64 s.epoch

-- the bytes of an entry, behind its gate: the numbers and the mask; or the numbers, the mark, and then the tag and the
-- mask in eight bytes
abbrev pub spelled_by : Bool → Option (List ℕ) → Stored → List ℕ
spelled_by wide None s = numbers s ++ mask_bytes wide s.mask.0
spelled_by wide (Some tag) s = (numbers s ++ mask_bytes wide (mark wide)) ++ (tag ++ to_be_bytes w64 s.mask.0)

abbrev pub spelled : Bool → Entry → List ℕ
spelled wide e = spelled_by wide e.moved e.kept

-- the header's first bytes
abbrev pub magic : Bool → List ℕ
magic false = codes "FFSTORE1"
magic true = codes "FFSTORE2"

-- the bytes of the file up to the gate behind these entries, the last one first
abbrev pub front : Bool → List ℕ → List Entry → List ℕ
front wide tag [] = magic wide ++ tag
front wide tag (e ∷ older) = front wide tag older ++ 1 ∷ spelled (seat_from (first_seat wide tag) older).wide e

-- ---- what stands in a file

-- what the state of each entry meets
pub record IsEntry (e : Stored) : Type 0 where
  pub next_small : e.next ≤ 32768
  pub epoch_small : e.epoch ≤ e.next
  pub mask_small : e.mask.0 < 2 ^ MAX_RINGS

-- a narrow entry holds masks without a bit at or above NARROW_RINGS, and a migration entry has a tag of 32 bytes
abbrev pub IsHeld : Bool → Option (List ℕ) → ℕ → Type 0
IsHeld false None mask = mask < 2 ^ NARROW_RINGS
IsHeld true None mask = Unit {0}
IsHeld wide (Some tag) mask = length tag ≡ 32

-- what an entry of this width meets
pub record IsEntryOf (wide : Bool) (e : Entry) : Type 0 where
  pub keeps : IsEntry e.kept
  pub holds : IsHeld wide e.moved e.kept.mask.0

-- what a state meets that comes after another
pub record Follows (before e : Stored) : Type 0 where
  pub next_rises : before.next < e.next
  pub epoch_stays : before.epoch ≤ e.epoch

-- an entry may come after these, the last one first; the first one moves nothing
abbrev pub Comes : List Entry → Entry → Type 0
Comes [] e = e.moved ≡ None
Comes (before ∷ older) e = Follows before.kept e.kept

-- entries that may stand from this seat on, the last one first
abbrev pub IsChain : Seat → List Entry → Type 0
IsChain first [] = Unit {0}
IsChain first (e ∷ older) = IsEntryOf (seat_from first older).wide e × Comes older e × IsChain first older

-- the entry with this tag and this state
abbrev pub entry_with : Option (List ℕ) → Stored → Entry
entry_with moved state = record { kept = state; moved = moved }

-- the file is a store, its state is the last entry's, this is the seat behind it, and this tag is in force there; what
-- stands behind the closed gate is not read
pub record StoreAt (tag image : List ℕ) (state : Stored) (seat : Seat) : Type 0 where
  pub wide : Bool
  pub header : List ℕ
  pub moved : Option (List ℕ)
  pub older : List Entry
  pub shut : ℕ
  pub rest : List ℕ
  pub long : length header ≡ 32
  pub chain : IsChain (first_seat wide header) (entry_with moved state ∷ older)
  pub closed : shut ≢ 1
  pub bytes : image ≡ front wide header (entry_with moved state ∷ older) ++ shut ∷ rest
  pub place : seat ≡ seat_from (first_seat wide header) (entry_with moved state ∷ older)
  pub in_force : seat.tag ≡ tag

-- the file is a store of this tag with this state
abbrev pub StoreOf : List ℕ → List ℕ → Stored → Type 0
StoreOf tag image state = (seat : Seat) × StoreAt tag image state seat

-- ---- a store that is made, and states that are put

-- the state that a move leaves
abbrev pub migrated : Stored → Mask → Stored
migrated old mask = record { next = old.next + 1; epoch = old.epoch; mask = mask }

-- the entry of a store that is made new
abbrev pub first_entry : Mask → Stored
first_entry mask = record { next = 0; epoch = 0; mask = mask }

-- the bytes of a store that is made new: one entry, wide where its mask needs it, and a closed gate
abbrev pub made : List ℕ → Stored → List ℕ
made tag first = front (made_first tag first).wide tag (entry_with None first ∷ []) ++ 0 ∷ []

-- the entries that keep these states, of which the oldest one was made, and each later one put, the last one first
abbrev pub put_entries : List ℕ → Stored → List Stored → List Entry
put_entries tag state [] = entry_with None state ∷ []
put_entries tag state (before ∷ older) = entry_for (seat_behind tag before older) state ∷ put_entries tag before older

-- the width of the first one
abbrev pub made_wide : Stored → List Stored → Bool
made_wide state [] = (made_first [] state).wide
made_wide state (before ∷ older) = made_wide before older

-- ---- moments

-- the newest moment is a settled file that is this store; nothing is said of a disk without moments
abbrev pub IsSettled : List ℕ → Stored → Seat → List Moment → Type 0
IsSettled tag state seat [] = Unit {0}
IsSettled tag state seat (now ∷ past) = (now ≡ settled now.image) × StoreAt tag now.image state seat

-- each file that a crash at this moment may leave is a store of the one tag with the one state, or of the other with
-- the other
abbrev pub LeavesOneOf : List ℕ → Stored → List ℕ → Stored → Moment → Type 0
LeavesOneOf tag old other new moment = (c : List ℕ) → Leaves moment c → StoreOf tag c old ⊎ StoreOf other c new

-- each file that a crash at this moment may leave is a store of this tag with the one state or the other
abbrev pub LeavesEither : List ℕ → Stored → Stored → Moment → Type 0
LeavesEither tag old new moment = LeavesOneOf tag old tag new moment

-- each file that a crash now may leave is a store of this tag with this state
abbrev pub LeavesState : List ℕ → Stored → List Moment → Type 0
LeavesState tag state [] = Unit {0}
LeavesState tag state (now ∷ past) = (c : List ℕ) → Leaves now c → StoreOf tag c state
