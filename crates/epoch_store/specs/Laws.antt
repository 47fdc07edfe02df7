-- Laws of the file of a store.
use Rattle.std.specs.Prelude.{◌≡◌, ◌↔◌, ℕ, ◌+◌, ◌≤◌, Option, None, Some, List, [], ◌∷◌, length}
use Rattle.epoch_store.specs.declared.Stored.{Stored}
use Rattle.epoch_store.specs.declared.entry.Entry.{Entry}
use Rattle.epoch_store.specs.declared.seat.Seat.{Seat}
use Rattle.epoch_store.specs.Seat.{store_length}
use Rattle.epoch_store.specs.Store.{StoreAt, StoreOf, entry_with}
use Rattle.epoch_store.specs.Reading.{Reads, Finds}

-- a file is a store of this tag, with this state and this seat behind it, exactly where reading it finds these
abbrev pub ReadsAsItIs : Type 0
ReadsAsItIs = (tag image : List ℕ) (state : Stored) (seat : Seat) → length tag ≡ 32 → StoreAt tag image state seat ↔ Reads tag image (Finds state seat)

-- one file is a store of one tag and one state
abbrev pub IsOneStore : Type 0
IsOneStore = (image tag other : List ℕ) (a b : Stored) → StoreOf tag image a → StoreOf other image b → (a ≡ b) × (tag ≡ other)

-- ---- how long a file is up to its closed gate, and with it

abbrev pub one_if_moved : Option (List ℕ) → ℕ
one_if_moved None = 0
one_if_moved (Some tag) = 1

-- how many of these entries move the store
abbrev pub moves_among : List Entry → ℕ
moves_among [] = 0
moves_among (e ∷ older) = one_if_moved e.moved + moves_among older

-- the entries of a store, the last one first
abbrev pub entries_of : {tag image : List ℕ} {state : Stored} {seat : Seat} → StoreAt tag image state seat → List Entry
entries_of {state = state} store = entry_with store.moved state ∷ store.older

-- a store has at most one entry for each index up to the next one
abbrev pub HasFewEntries : Type 0
HasFewEntries = (tag image : List ℕ) (state : Stored) (seat : Seat) (store : StoreAt tag image state seat) → length (entries_of store) ≤ state.next + 1

-- a store that at most one entry moves has no more bytes than there is room for with so many entries
abbrev pub HasRoom : Type 0
HasRoom = (tag image : List ℕ) (state : Stored) (seat : Seat) (store : StoreAt tag image state seat) → moves_among (entries_of store) ≤ 1 → seat.gate + 1 ≤ store_length (length (entries_of store))

-- the most bytes of a store that no entry moves, and of any
abbrev pub IsBounded : Type 0
IsBounded = (tag image : List ℕ) (state : Stored) (seat : Seat) (store : StoreAt tag image state seat) → (moves_among (entries_of store) ≡ 0 → seat.gate + 1 ≤ 688190) × (seat.gate + 1 ≤ 1998910)
