-- The seats of a store's entries. All places in a store's file follow from the first one.
use Rattle.std.specs.Prelude.{ℕ, ◌+◌, ◌*◌, ◌^◌, Bool, true, false, ◌||◌, nat_le, if◌then◌else◌, Option, None, Some, List, [], ◌∷◌}
use Rattle.epoch_store.specs.declared.Stored.{Stored}
use Rattle.epoch_store.specs.declared.entry.Entry.{Entry}
use Rattle.epoch_store.specs.declared.seat.Seat.{Seat}
use Rattle.epoch_store.specs.declared.seat.TheConstants.{NARROW_RINGS}

-- how many bytes the header and its tag have
abbrev pub header_length : ℕ
header_length = 40

-- how many bytes a gate and the entry behind it have: where the mask has four bytes, and where it has eight
abbrev pub width_by : Bool → ℕ
width_by false = 17
width_by true = 21

-- how many bytes stand behind a migration entry's mark: a tag and a mask
abbrev pub moved_length : ℕ
moved_length = 40

-- the width of a seat: how many bytes its gate and its entry have
abbrev pub width : Seat → ℕ
width seat = width_by seat.wide

-- a narrow entry doesn't hold this mask
abbrev pub needs_wide : ℕ → Bool
needs_wide mask = nat_le (2 ^ NARROW_RINGS) mask

-- the first seat of a file whose header has this tag, and says so of the width
abbrev pub first_seat : Bool → List ℕ → Seat
first_seat wide tag = record { gate = header_length; wide = wide; tag = tag; tag_place = 8 }

abbrev pub behind_by : Option (List ℕ) → Seat → Seat
behind_by None seat = record seat { gate = seat.gate + width seat }
behind_by (Some tag) seat = record { gate = seat.gate + width seat + moved_length; wide = true; tag = tag; tag_place = seat.gate + width seat }

-- the seat behind an entry. All entries behind a migration entry are wide, and its tag is in force
abbrev pub behind : Seat → Entry → Seat
behind seat e = behind_by e.moved seat

-- the seat behind entries, the last one first
abbrev pub seat_from : Seat → List Entry → Seat
seat_from first [] = first
seat_from first (e ∷ older) = behind (seat_from first older) e

-- ---- entries that are put

-- the tag of the entry that keeps a mask: a narrow store takes one that no narrow entry holds by a migration entry
-- with the tag in force
abbrev pub moved_by : Seat → ℕ → Option (List ℕ)
moved_by seat mask = if seat.wide || (if needs_wide mask then false else true) then None else Some seat.tag

-- the entry by which this state is put
abbrev pub entry_for : Seat → Stored → Entry
entry_for seat state = record { kept = state; moved = moved_by seat state.mask.0 }

-- the seat behind the entry by which this state is put
abbrev pub next_seat : Seat → Stored → Seat
next_seat seat state = behind seat (entry_for seat state)

-- the first seat of a store that is made with this state
abbrev pub made_first : List ℕ → Stored → Seat
made_first tag state = first_seat (needs_wide state.mask.0) tag

-- the seat behind its entry
abbrev pub made_seat : List ℕ → Stored → Seat
made_seat tag state = next_seat (made_first tag state) state

-- the seat behind states of which the oldest one was made, and each later one put, the last one first
abbrev pub seat_behind : List ℕ → Stored → List Stored → Seat
seat_behind tag state [] = made_seat tag state
seat_behind tag state (before ∷ older) = next_seat (seat_behind tag before older) state

-- room for a file of so many entries, of which at most one is a migration entry, and a closed gate behind them
abbrev pub store_length : ℕ → ℕ
store_length entries = header_length + width_by true * entries + moved_length + 1
