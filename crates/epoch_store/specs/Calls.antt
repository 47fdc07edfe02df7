-- What the calls of a store answer, and what they do to its file.
use Rattle.std.specs.Prelude.{◌≡◌, ℕ, ◌+◌, ◌*◌, ◌<◌, ◌≤◌, Bool, true, false, Option, None, Some, is_some, List, take, drop, [], ◌∷◌, length, Result, Ok, Err}
use Rattle.std.specs.List.{slice_get}
use Rattle.epoch_store.specs.declared.Stored.{Stored}
use Rattle.epoch_store.specs.declared.seat.Seat.{Seat}
use Rattle.epoch_store.specs.declared.entry.Entry.{Entry}
use Rattle.epoch_store.specs.Seat.{header_length, moved_length, width}
use Rattle.epoch_store.specs.declared.StoreError.{StoreError}
use Rattle.epoch_store.specs.declared.StoreError.TheVariants.{Fault, Taken, Broken, OtherKey, OutOfMemory}
use Rattle.epoch_store.specs.declared.entry.Gate.TheVariants.{Shut, Open}
use Rattle.epoch_store.specs.Store.{IsEntry, Follows, StoreAt}
use Rattle.ports.specs.Disk.{Moment, Fails, stays, settled}
use Rattle.epoch_store.specs.Reading.{Reading, Finds, Breaks, Differs, Reads, ReadsFrom, StandsIn, head_seat, wrong_field}
use Rattle.epoch_store.specs.declared.entry.Gate.{Gate}

-- what a store keeps in memory: the state, the seat behind it, and whether a put has failed
pub record StoreState : Type 0 where
  pub state : Stored
  pub seat : Seat
  pub failed : Bool

-- the call answered a fault of the disk
abbrev pub is_fault : {T : Type 0} → Result T StoreError → Bool
is_fault (Ok value) = false
is_fault (Err Fault) = true
is_fault (Err (Taken len)) = false
is_fault (Err (Broken place byte)) = false
is_fault (Err (OtherKey place byte)) = false
is_fault (Err OutOfMemory) = false

-- afterwards the file is settled, and it is what the change makes of the file before
abbrev pub SettlesAs : (List ℕ → List ℕ) → List Moment → List Moment → Type 0
SettlesAs change [] newer = newer ≡ []
SettlesAs change (was ∷ older) [] = ⊥
SettlesAs change (was ∷ older) (now ∷ past) = now ≡ settled (change was.image)

abbrev pub same : List ℕ → List ℕ
same image = image

-- what holds of an answer that came of the file itself: not of a fault, nor of want of memory
abbrev pub OnRead : {T : Type 0} → Result T StoreError → Type 0 → Type 0
OnRead (Ok value) P = P
OnRead (Err Fault) P = Unit {0}
OnRead (Err (Taken len)) P = P
OnRead (Err (Broken place byte)) P = P
OnRead (Err (OtherKey place byte)) P = P
OnRead (Err OutOfMemory) P = Unit {0}

-- what is answered where the reading of the file comes to this
abbrev pub answer_of : List ℕ → Reading → Result StoreState StoreError
answer_of image (Finds state seat) = Ok (record { state = state; seat = seat; failed = false })
answer_of image (Breaks place) = Err (Broken place (slice_get image place))
answer_of image (Differs place byte) = Err (OtherKey place byte)

-- the answer is the one of the file: some reading of it comes to it, and there is no other reading
pub record AnswersAs (tag image : List ℕ) (result : Result StoreState StoreError) : Type 0 where
  pub reading : Reading
  pub reads : Reads tag image reading
  pub only : (other : Reading) → Reads tag image other → other ≡ reading
  pub answer : result ≡ answer_of image reading

-- the answer of opening, where the file is modelled
abbrev pub OpensAs : List ℕ → List Moment → Result StoreState StoreError → Type 0
OpensAs tag [] result = Unit {0}
OpensAs tag (now ∷ past) result = OnRead result (AnswersAs tag now.image result)

-- a store is opened or refused by what is in the file, and never for its length alone
abbrev pub IsNotTaken : {T : Type 0} → Result T StoreError → Type 0
IsNotTaken (Ok value) = Unit {0}
IsNotTaken (Err Fault) = Unit {0}
IsNotTaken (Err (Taken len)) = ⊥
IsNotTaken (Err (Broken place byte)) = Unit {0}
IsNotTaken (Err (OtherKey place byte)) = Unit {0}
IsNotTaken (Err OutOfMemory) = Unit {0}

-- a length of the file, where it is modelled
abbrev pub HasLength : List Moment → ℕ → Type 0
HasLength [] n = Unit {0}
HasLength (now ∷ past) n = length now.image ≡ n

-- a store is made where the file is empty, and else its length is answered
abbrev pub MakesWhereEmpty : List Moment → Result Unit StoreError → Type 0
MakesWhereEmpty moments (Ok value) = HasLength moments 0
MakesWhereEmpty moments (Err Fault) = Unit {0}
MakesWhereEmpty moments (Err (Taken len)) = HasLength moments len × (len ≡ 0 → ⊥)
MakesWhereEmpty moments (Err (Broken place byte)) = ⊥
MakesWhereEmpty moments (Err (OtherKey place byte)) = ⊥
MakesWhereEmpty moments (Err OutOfMemory) = Unit {0}

-- what holds where a store was not made for the file's length or for want of memory
abbrev pub OnRefusal : {T : Type 0} → Result T StoreError → Type 0 → Type 0
OnRefusal (Ok value) P = Unit {0}
OnRefusal (Err Fault) P = Unit {0}
OnRefusal (Err (Taken len)) P = P
OnRefusal (Err (Broken place byte)) P = P
OnRefusal (Err (OtherKey place byte)) P = P
OnRefusal (Err OutOfMemory) P = P

-- the head of a file is checked, these being the bytes that it has of it
abbrev pub ChecksHead : List ℕ → Result Seat StoreError → Type 0
ChecksHead head (Ok first) = head_seat head ≡ Ok first
ChecksHead head (Err Fault) = ⊥
ChecksHead head (Err (Taken len)) = ⊥
ChecksHead head (Err (Broken place byte)) = (head_seat head ≡ Err place) × (byte ≡ slice_get head place) × (place < header_length)
ChecksHead head (Err (OtherKey place byte)) = ⊥
ChecksHead head (Err OutOfMemory) = ⊥

-- the head of a file is read
abbrev pub HeadAnswer : List ℕ → Result Seat StoreError → Type 0
HeadAnswer image (Ok first) = head_seat (take header_length image) ≡ Ok first
HeadAnswer image (Err Fault) = Unit {0}
HeadAnswer image (Err (Taken len)) = ⊥
HeadAnswer image (Err (Broken place byte)) = (head_seat (take header_length image) ≡ Err place) × (byte ≡ slice_get image place)
HeadAnswer image (Err (OtherKey place byte)) = ⊥
HeadAnswer image (Err OutOfMemory) = ⊥

abbrev pub ReadsHead : List Moment → Result Seat StoreError → Type 0
ReadsHead [] result = Unit {0}
ReadsHead (now ∷ past) result = HeadAnswer now.image result

-- where a seat may be, behind this state: no gate and entry have more than 61 bytes
abbrev pub IsPlaced : Option Stored → Seat → Type 0
IsPlaced None seat = (seat.gate ≡ header_length) × (seat.tag_place ≤ seat.gate)
IsPlaced (Some state) seat = IsEntry state × (seat.gate ≤ header_length + 61 * (state.next + 1)) × (seat.tag_place ≤ seat.gate)

-- a file that is read has a first seat behind the head
abbrev pub BeginsAt : Result Seat StoreError → Type 0
BeginsAt (Ok first) = IsPlaced None first
BeginsAt (Err error) = Unit {0}

-- what stands in a seat of the file is read
abbrev pub GateAnswer : Option Stored → Seat → List ℕ → Result Gate StoreError → Type 0
GateAnswer before seat image (Ok found) = StandsIn image before seat (Ok found)
GateAnswer before seat image (Err Fault) = Unit {0}
GateAnswer before seat image (Err (Taken len)) = ⊥
GateAnswer before seat image (Err (Broken place byte)) =
    (at : ℕ) × StandsIn image before seat (Err at) × (place ≡ seat.gate + at) × (byte ≡ slice_get image place)
GateAnswer before seat image (Err (OtherKey place byte)) = ⊥
GateAnswer before seat image (Err OutOfMemory) = ⊥

abbrev pub ReadsGate : Option Stored → Seat → List Moment → Result Gate StoreError → Type 0
ReadsGate before seat [] result = Unit {0}
ReadsGate before seat (now ∷ past) result = GateAnswer before seat now.image result

-- the file was opened or not
abbrev pub IsOpened : List Moment → List Moment → Result Unit StoreError → Type 0
IsOpened older newer (Ok value) = newer ≡ older
IsOpened older newer (Err Fault) = Fails stays older newer
IsOpened older newer (Err (Taken len)) = ⊥
IsOpened older newer (Err (Broken place byte)) = ⊥
IsOpened older newer (Err (OtherKey place byte)) = ⊥
IsOpened older newer (Err OutOfMemory) = newer ≡ older

-- an entry may come after the one before, if there is one
abbrev pub IsAfter : Option Stored → Stored → Type 0
IsAfter None e = Unit {0}
IsAfter (Some before) e = Follows before e

-- an entry that is found may stand there, and a closed gate stands behind the entry before it
abbrev pub FindsGate : Option Stored → Result Gate StoreError → Type 0
FindsGate before (Ok (Shut state)) = before ≡ Some state
FindsGate before (Ok (Open e)) = IsEntry e.kept × IsAfter before e.kept
FindsGate before (Err error) = IsNotTaken {T = Gate} (Err error)

-- these are the bytes of a gate and of the entry behind it, where the file is modelled
abbrev pub HasBytes : List Moment → Seat → List ℕ → Type 0
HasBytes [] seat bytes = Unit {0}
HasBytes (now ∷ past) seat bytes = bytes ≡ take (width seat) (drop seat.gate now.image)

-- an entry may stand in its seat, or its first wrong field is told, these being the bytes from the gate on
abbrev pub Judges : Seat → Option Stored → Entry → List ℕ → Result Gate StoreError → Type 0
Judges seat before e bytes (Ok (Shut state)) = ⊥
Judges seat before e bytes (Ok (Open found)) = (found ≡ e) × (wrong_field seat.wide before e ≡ None)
Judges seat before e bytes (Err Fault) = ⊥
Judges seat before e bytes (Err (Taken len)) = ⊥
Judges seat before e bytes (Err (Broken place byte)) =
    (at : ℕ) × (wrong_field seat.wide before e ≡ Some at) × (place ≡ seat.gate + at) × (byte ≡ slice_get bytes at)
Judges seat before e bytes (Err (OtherKey place byte)) = ⊥
Judges seat before e bytes (Err OutOfMemory) = ⊥

-- what was read behind a mark is a migration entry, or the file breaks within it
abbrev pub IsBehindMark : Seat → Result Gate StoreError → Type 0
IsBehindMark seat (Ok (Shut state)) = ⊥
IsBehindMark seat (Ok (Open e)) = is_some e.moved ≡ true
IsBehindMark seat (Err Fault) = Unit {0}
IsBehindMark seat (Err (Taken len)) = ⊥
IsBehindMark seat (Err (Broken place byte)) = (seat.gate ≤ place) × (place < seat.gate + width seat + moved_length)
IsBehindMark seat (Err (OtherKey place byte)) = ⊥
IsBehindMark seat (Err OutOfMemory) = ⊥

-- the entries are read from the first seat on
abbrev pub EntriesAnswer : List ℕ → Seat → List ℕ → Result StoreState StoreError → Type 0
EntriesAnswer tag first image result = (reading : Reading) × ReadsFrom tag image None first reading × (result ≡ answer_of image reading)

abbrev pub ReadsEntries : List ℕ → Seat → List Moment → Result StoreState StoreError → Type 0
ReadsEntries tag first [] result = IsNotTaken result
ReadsEntries tag first (now ∷ past) result = OnRead result (EntriesAnswer tag first now.image result)

-- the file is this store, where it is modelled
abbrev pub HoldsStore : List ℕ → Stored → Seat → List Moment → Type 0
HoldsStore tag state seat [] = Unit {0}
HoldsStore tag state seat (now ∷ past) = StoreAt tag now.image state seat
