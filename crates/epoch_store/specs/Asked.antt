-- The disk calls that each call of a store makes, the last one first.
use Rattle.std.specs.Prelude.{◌≡◌, ℕ, ◌+◌, ◌<◌, ◌≤◌, ◌⊎◌, Bool, true, false, is_some, Option, List, [], ◌∷◌, ◌++◌, drop, take, Result, Ok, Err}
use Rattle.ports.specs.Disk.{Moment}
use Rattle.ports.specs.DiskCalls.{DiskCall, ToOpen, ToMeasure, ToRead, ToWrite, ToSync, with_call, with_calls, AsFarAs}
use Rattle.epoch_store.specs.declared.Stored.{Stored}
use Rattle.epoch_store.specs.declared.entry.Entry.{Entry}
use Rattle.epoch_store.specs.declared.entry.Gate.{Gate}
use Rattle.epoch_store.specs.declared.entry.Gate.TheVariants.{Shut, Open}
use Rattle.epoch_store.specs.declared.seat.Seat.{Seat}
use Rattle.epoch_store.specs.Seat.{entry_for, header_length, moved_length, seat_from, width}
use Rattle.epoch_store.specs.declared.StoreError.{StoreError}
use Rattle.epoch_store.specs.declared.StoreError.TheVariants.{Fault, Taken, Broken, OtherKey, OutOfMemory}
use Rattle.epoch_store.specs.Calls.{StoreState}
use Rattle.epoch_store.specs.Reading.{IsClosed, IsMarked, StandsIn, head_seat, last_kept}
use Rattle.epoch_store.specs.Store.{spelled, made}

-- to make a store
abbrev pub make_calls : List ℕ → List ℕ → Stored → List DiskCall
make_calls name tag first = ToSync ∷ ToWrite 0 (made tag first) ∷ ToMeasure ∷ ToOpen name ∷ []

-- to put this entry in this seat, and then to open the gate in front of it
abbrev pub entry_calls : Seat → Entry → List DiskCall
entry_calls seat e = ToSync ∷ ToWrite seat.gate (1 ∷ []) ∷ ToSync ∷ ToWrite (seat.gate + 1) (spelled seat.wide e ++ 0 ∷ []) ∷ []

-- to put a state
abbrev pub put_calls : Seat → Stored → List DiskCall
put_calls seat next = entry_calls seat (entry_for seat next)

-- to read a gate and the entry behind it, and what stands behind a migration entry's mark
abbrev pub gate_reads : Seat → Bool → List DiskCall
gate_reads seat false = ToRead seat.gate (width seat) ∷ []
gate_reads seat true = ToRead (seat.gate + width seat) moved_length ∷ ToRead seat.gate (width seat) ∷ []

-- how many bytes these are
abbrev pub reads_length : Seat → Bool → ℕ
reads_length seat false = width seat
reads_length seat true = width seat + moved_length

-- to read the gates in front of these entries from this seat on, the last entry first
abbrev pub entry_reads : Seat → List Entry → List DiskCall
entry_reads first [] = []
entry_reads first (e ∷ older) = gate_reads (seat_from first older) (is_some e.moved) ++ entry_reads first older

-- to open a store and read its head
abbrev pub open_calls : List ℕ → List DiskCall
open_calls name = ToRead 0 header_length ∷ ToSync ∷ ToOpen name ∷ []

-- all of these calls were made where the answer is Ok, and else the first ones of them
abbrev pub Makes : {T E : Type 0} → Result T E → List DiskCall → Option (List DiskCall) → Option (List DiskCall) → Type 0
Makes (Ok value) all older newer = newer ≡ with_calls all older
Makes (Err error) all older newer = AsFarAs all older newer

-- a store is made: a file that is taken is opened and measured, and no more; where memory is refused, it is opened alone
abbrev pub MakesStore : List ℕ → List ℕ → Stored → Result Unit StoreError → Option (List DiskCall) → Option (List DiskCall) → Type 0
MakesStore name tag first (Ok value) older newer = newer ≡ with_calls (make_calls name tag first) older
MakesStore name tag first (Err Fault) older newer = AsFarAs (make_calls name tag first) older newer
MakesStore name tag first (Err (Taken len)) older newer = newer ≡ with_calls (ToMeasure ∷ ToOpen name ∷ []) older
MakesStore name tag first (Err (Broken place byte)) older newer = ⊥
MakesStore name tag first (Err (OtherKey place byte)) older newer = ⊥
MakesStore name tag first (Err OutOfMemory) older newer = newer ≡ with_call (ToOpen name) older

-- this is the file's first seat, and from there on reading passes these entries, the last one first
abbrev pub Passes : List ℕ → Seat → List Entry → Type 0
Passes image first [] = head_seat (take header_length image) ≡ Ok first
Passes image first (e ∷ older) = Passes image first older × StandsIn image (last_kept older) (seat_from first older) (Ok (Open e))

-- reading passes these entries, where the file is modelled
abbrev pub PassesIn : List Moment → Seat → List Entry → Type 0
PassesIn [] first entries = Unit {0}
PassesIn (now ∷ past) first entries = Passes now.image first entries

-- a migration entry's mark stands in this seat of the file, or none does
abbrev pub MarkedIn : List ℕ → Seat → Bool → Type 0
MarkedIn image seat false = IsMarked seat.wide (drop seat.gate image) → ⊥
MarkedIn image seat true = IsMarked seat.wide (drop seat.gate image)

-- where the file is modelled, what stands behind a mark is read exactly where one stands in the seat
abbrev pub ReadsMark : List Moment → Seat → Bool → Type 0
ReadsMark [] seat moved = Unit {0}
ReadsMark (now ∷ past) seat moved = MarkedIn now.image seat moved

-- the calls that read what stands in a seat
abbrev pub ReadsOneGate : Seat → List Moment → Result Gate StoreError → Option (List DiskCall) → Option (List DiskCall) → Type 0
ReadsOneGate seat moments (Ok (Shut state)) older newer = newer ≡ with_calls (gate_reads seat false) older
ReadsOneGate seat moments (Ok (Open e)) older newer = newer ≡ with_calls (gate_reads seat (is_some e.moved)) older
ReadsOneGate seat moments (Err Fault) older newer = (moved : Bool) × ReadsMark moments seat moved × AsFarAs (gate_reads seat moved) older newer
ReadsOneGate seat moments (Err (Taken len)) older newer = ⊥
ReadsOneGate seat moments (Err (Broken place byte)) older newer =
    (moved : Bool) × ReadsMark moments seat moved × (seat.gate ≤ place) × (place < seat.gate + reads_length seat moved) × (newer ≡ with_calls (gate_reads seat moved) older)
ReadsOneGate seat moments (Err (OtherKey place byte)) older newer = ⊥
ReadsOneGate seat moments (Err OutOfMemory) older newer = ⊥

-- the gate in the seat is closed, where the file is modelled
abbrev pub ClosedIn : List Moment → Seat → Type 0
ClosedIn [] seat = Unit {0}
ClosedIn (now ∷ past) seat = IsClosed (drop seat.gate now.image)

-- the gates in front of this seat were passed from the first one on, each with its entry, by these reads; the entries are
-- those of the file, where it is modelled
pub record Passed (moments : List Moment) (seat : Seat) (reads : List DiskCall) : Type 0 where
  pub first : Seat
  pub entries : List Entry
  pub begins : first.gate ≡ header_length
  pub passes : PassesIn moments first entries
  pub ends : seat ≡ seat_from first entries
  pub are : reads ≡ entry_reads first entries

-- after some calls, each gate was read up to the closed one in this seat
pub record ReadsUpTo (first : List DiskCall) (moments : List Moment) (seat : Seat) (older newer : Option (List DiskCall)) : Type 0 where
  pub reads : List DiskCall
  pub passed : Passed moments seat reads
  pub closed : ClosedIn moments seat
  pub made : newer ≡ with_calls (gate_reads seat false ++ (reads ++ first)) older

-- after some calls, each gate was read up to the one at which the file breaks at this place, and no gate behind it
pub record ReadsToBreak (first : List DiskCall) (moments : List Moment) (place : ℕ) (older newer : Option (List DiskCall)) : Type 0 where
  pub seat : Seat
  pub moved : Bool
  pub reads : List DiskCall
  pub passed : Passed moments seat reads
  pub marked : ReadsMark moments seat moved
  pub from_gate : seat.gate ≤ place
  pub within : place < seat.gate + reads_length seat moved
  pub made : newer ≡ with_calls (gate_reads seat moved ++ (reads ++ first)) older

-- none, where the place is within the head
abbrev pub ReadsTo : List DiskCall → List Moment → ℕ → Option (List DiskCall) → Option (List DiskCall) → Type 0
ReadsTo first moments place older newer = ((place < header_length) × (newer ≡ with_calls first older)) ⊎ ReadsToBreak first moments place older newer

-- after some calls, gates were read until something failed
pub record ReadsSome (first : List DiskCall) (moments : List Moment) (older newer : Option (List DiskCall)) : Type 0 where
  pub seat : Seat
  pub moved : Bool
  pub reads : List DiskCall
  pub passed : Passed moments seat reads
  pub marked : ReadsMark moments seat moved
  pub made : AsFarAs (gate_reads seat moved ++ (reads ++ first)) older newer

-- one of the calls before failed, or gates were read until something did
abbrev pub StopsReading : List DiskCall → List Moment → Option (List DiskCall) → Option (List DiskCall) → Type 0
StopsReading first moments older newer = AsFarAs first older newer ⊎ ReadsSome first moments older newer

-- after some calls, the gates are read: up to the closed one, or to the one at which the file is refused
abbrev pub ReadsGates : List DiskCall → List Moment → Result StoreState StoreError → Option (List DiskCall) → Option (List DiskCall) → Type 0
ReadsGates first moments (Ok store) older newer = ReadsUpTo first moments store.seat older newer
ReadsGates first moments (Err Fault) older newer = StopsReading first moments older newer
ReadsGates first moments (Err (Taken len)) older newer = ⊥
ReadsGates first moments (Err (Broken place byte)) older newer = ReadsTo first moments place older newer
ReadsGates first moments (Err (OtherKey place byte)) older newer = (seat : Seat) × ReadsUpTo first moments seat older newer
ReadsGates first moments (Err OutOfMemory) older newer = ⊥

-- a store is opened: its file is opened, its head is read, and then its gates; where memory is refused, the file was opened,
-- and no more
abbrev pub AsksToOpen : List ℕ → List Moment → Result StoreState StoreError → Option (List DiskCall) → Option (List DiskCall) → Type 0
AsksToOpen name moments (Ok store) older newer = ReadsGates (open_calls name) moments (Ok store) older newer
AsksToOpen name moments (Err Fault) older newer = ReadsGates (open_calls name) moments (Err Fault) older newer
AsksToOpen name moments (Err (Taken len)) older newer = ⊥
AsksToOpen name moments (Err (Broken place byte)) older newer = ReadsGates (open_calls name) moments (Err (Broken place byte)) older newer
AsksToOpen name moments (Err (OtherKey place byte)) older newer = ReadsGates (open_calls name) moments (Err (OtherKey place byte)) older newer
AsksToOpen name moments (Err OutOfMemory) older newer = newer ≡ with_call (ToOpen name) older

-- a head is refused at a place within it
abbrev pub RefusedInHead : {T : Type 0} → Result T StoreError → Type 0
RefusedInHead (Ok value) = Unit {0}
RefusedInHead (Err Fault) = Unit {0}
RefusedInHead (Err (Taken len)) = ⊥
RefusedInHead (Err (Broken place byte)) = place < header_length
RefusedInHead (Err (OtherKey place byte)) = ⊥
RefusedInHead (Err OutOfMemory) = ⊥
