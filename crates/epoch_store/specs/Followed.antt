-- What each call of a store makes of a disk whose state is modelled, and which calls fail.
use Rattle.std.specs.Prelude.{◌≡◌, ℕ, ◌+◌, ◌<◌, ◌≤◌, ◌⊎◌, Bool, true, false, Option, None, is_some, List, [], ◌∷◌, ◌++◌, Result, Ok, Err}
use Rattle.ports.specs.Disk.{Moment}
use Rattle.ports.specs.DiskCalls.{DiskCall, ToOpen, ToMeasure}
use Rattle.ports.specs.MemoryDisk.{DiskState}
use Rattle.ports.specs.DiskSteps.{came_to, runs_on}
use Rattle.epoch_store.specs.declared.Stored.{Stored}
use Rattle.epoch_store.specs.declared.seat.Seat.{Seat}
use Rattle.epoch_store.specs.Seat.{header_length}
use Rattle.epoch_store.specs.declared.StoreError.{StoreError}
use Rattle.epoch_store.specs.declared.StoreError.TheVariants.{Fault, Taken, Broken, OtherKey, OutOfMemory}
use Rattle.epoch_store.specs.declared.entry.Gate.TheVariants.{Shut, Open}
use Rattle.epoch_store.specs.declared.entry.Gate.{Gate}
use Rattle.epoch_store.specs.Calls.{StoreState}
use Rattle.epoch_store.specs.Asked.{ClosedIn, Passed, ReadsMark, gate_reads, make_calls, reads_length}

-- the file was opened or not; memory is refused only where the state isn't modelled
abbrev pub OpensFile : List ℕ → Option DiskState → Option DiskState → Result Unit StoreError → Type 0
OpensFile name older newer (Ok value) = came_to newer false ≡ runs_on (ToOpen name ∷ []) older
OpensFile name older newer (Err Fault) = came_to newer true ≡ runs_on (ToOpen name ∷ []) older
OpensFile name older newer (Err (Taken len)) = ⊥
OpensFile name older newer (Err (Broken place byte)) = ⊥
OpensFile name older newer (Err (OtherKey place byte)) = ⊥
OpensFile name older newer (Err OutOfMemory) = older ≡ None

-- a store was made, or one of the calls failed; a file that is taken was opened and measured, and no more
abbrev pub MakesFrom : List ℕ → List ℕ → Stored → Result Unit StoreError → Option DiskState → Option DiskState → Type 0
MakesFrom name tag first (Ok value) older newer = came_to newer false ≡ runs_on (make_calls name tag first) older
MakesFrom name tag first (Err Fault) older newer = came_to newer true ≡ runs_on (make_calls name tag first) older
MakesFrom name tag first (Err (Taken len)) older newer = came_to newer false ≡ runs_on (ToMeasure ∷ ToOpen name ∷ []) older
MakesFrom name tag first (Err (Broken place byte)) older newer = ⊥
MakesFrom name tag first (Err (OtherKey place byte)) older newer = ⊥
MakesFrom name tag first (Err OutOfMemory) older newer = older ≡ None

-- ---- the gates

-- the calls that read what stands in a seat
abbrev pub ReadsOneGateFrom : Seat → List Moment → Result Gate StoreError → Option DiskState → Option DiskState → Type 0
ReadsOneGateFrom seat moments (Ok (Shut state)) older newer = came_to newer false ≡ runs_on (gate_reads seat false) older
ReadsOneGateFrom seat moments (Ok (Open e)) older newer = came_to newer false ≡ runs_on (gate_reads seat (is_some e.moved)) older
ReadsOneGateFrom seat moments (Err Fault) older newer = (moved : Bool) × ReadsMark moments seat moved × (came_to newer true ≡ runs_on (gate_reads seat moved) older)
ReadsOneGateFrom seat moments (Err (Taken len)) older newer = ⊥
ReadsOneGateFrom seat moments (Err (Broken place byte)) older newer =
    (moved : Bool) × ReadsMark moments seat moved × (seat.gate ≤ place) × (place < seat.gate + reads_length seat moved)
    × (came_to newer false ≡ runs_on (gate_reads seat moved) older)
ReadsOneGateFrom seat moments (Err (OtherKey place byte)) older newer = ⊥
ReadsOneGateFrom seat moments (Err OutOfMemory) older newer = ⊥

-- after some calls, each gate was read up to the closed one in this seat
pub record ReadsOnUpTo (first : List DiskCall) (moments : List Moment) (seat : Seat) (older newer : Option DiskState) : Type 0 where
  pub reads : List DiskCall
  pub passed : Passed moments seat reads
  pub closed : ClosedIn moments seat
  pub came : came_to newer false ≡ runs_on (gate_reads seat false ++ (reads ++ first)) older

-- after some calls, each gate was read up to the one at which the file breaks at this place, and no gate behind it
pub record ReadsOnToBreak (first : List DiskCall) (moments : List Moment) (place : ℕ) (older newer : Option DiskState) : Type 0 where
  pub seat : Seat
  pub moved : Bool
  pub reads : List DiskCall
  pub passed : Passed moments seat reads
  pub marked : ReadsMark moments seat moved
  pub from_gate : seat.gate ≤ place
  pub within : place < seat.gate + reads_length seat moved
  pub came : came_to newer false ≡ runs_on (gate_reads seat moved ++ (reads ++ first)) older

-- none, where the place is within the head
abbrev pub ReadsOnTo : List DiskCall → List Moment → ℕ → Option DiskState → Option DiskState → Type 0
ReadsOnTo first moments place older newer =
    ((place < header_length) × (came_to newer false ≡ runs_on first older)) ⊎ ReadsOnToBreak first moments place older newer

-- one of the calls failed that read a gate, or what stands behind its mark; the gates before were passed
pub record FailsAtGate (first : List DiskCall) (moments : List Moment) (older newer : Option DiskState) : Type 0 where
  pub seat : Seat
  pub moved : Bool
  pub reads : List DiskCall
  pub passed : Passed moments seat reads
  pub marked : ReadsMark moments seat moved
  pub came : came_to newer true ≡ runs_on (gate_reads seat moved ++ (reads ++ first)) older

-- one of the calls failed: of those before, or of the reads of gates
abbrev pub FailsReading : List DiskCall → List Moment → Option DiskState → Option DiskState → Type 0
FailsReading first moments older newer = (came_to newer true ≡ runs_on first older) ⊎ FailsAtGate first moments older newer

-- after some calls, the gates are read: up to the closed one, to the place where the file is refused, or up to a call
-- that fails; memory is refused only where the state isn't modelled
abbrev pub ReadsGatesFrom : List DiskCall → List Moment → Result StoreState StoreError → Option DiskState → Option DiskState → Type 0
ReadsGatesFrom first moments (Ok store) older newer = ReadsOnUpTo first moments store.seat older newer
ReadsGatesFrom first moments (Err Fault) older newer = FailsReading first moments older newer
ReadsGatesFrom first moments (Err (Taken len)) older newer = ⊥
ReadsGatesFrom first moments (Err (Broken place byte)) older newer = ReadsOnTo first moments place older newer
ReadsGatesFrom first moments (Err (OtherKey place byte)) older newer = (seat : Seat) × ReadsOnUpTo first moments seat older newer
ReadsGatesFrom first moments (Err OutOfMemory) older newer = older ≡ None
