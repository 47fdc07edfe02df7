-- Lives: lists of events, and what a removal must have for its cause.
use Rattle.std.specs.Prelude.{◌≡◌, ℕ, ◌+◌, ◌<◌, ◌≤◌, true, false, List, [], ◌∷◌, Some, None, take, length, slice_get}
use Rattle.ff_ids.specs.declared.AccBody.{AccBody}
use Rattle.ff_ids.specs.declared.NoteBody.{NoteBody}
use Rattle.ff_ids.specs.declared.Group.{Group}
use Rattle.ff_ids.specs.Views.{State, Member, in_view, stands}
use Rattle.ff_ids.specs.Notes.{is_leaving}
use Rattle.ff_ids.specs.Faults.{note_fault, accusation_fault}
use Rattle.ff_ids.specs.Steps.{Event, Notes, Accuses, Ticks, Report, step}

-- A life opens at moment 0 with those who have joined, and nothing else.
abbrev pub opening : List Member → State
opening members = record { moment = 0; members = members; notes = []; expired = []; kept = [] }

-- The state after the events, from the first on.
abbrev pub after : Group → State → List Event → State
after g s [] = s
after g s (e ∷ events) = after g (step g s e).state events

-- What each event reports.
abbrev pub reports : Group → State → List Event → List Report
reports g s [] = []
reports g s (e ∷ events) = (step g s e).report ∷ reports g (step g s e).state events

-- The state before the event at place j.
abbrev pub state_at : Group → State → List Event → ℕ → State
state_at g s events j = after g s (take j events)

-- The member is in the view before the event at place j, and not after it.
pub record IsRemovedAt (g : Group) (s : State) (events : List Event) (j m : ℕ) : Type 0 where
  pub before : in_view (state_at g s events j) m ≡ true
  pub later : in_view (state_at g s events (j + 1)) m ≡ false

-- The event at place i is this accusation, and it is accepted.
pub record IsAcceptedAt (g : Group) (s : State) (events : List Event) (i : ℕ) (a : AccBody) : Type 0 where
  pub event : slice_get events i ≡ Some (Accuses a)
  pub no_fault : accusation_fault g.t (state_at g s events i) a ≡ None

-- The event at place i is this note, and it is accepted.
pub record IsNoteAcceptedAt (g : Group) (s : State) (events : List Event) (i : ℕ) (n : NoteBody) : Type 0 where
  pub event : slice_get events i ≡ Some (Notes n)
  pub no_fault : note_fault g.t (state_at g s events i) n ≡ None

-- The event at place j is a note of m by which it leaves, and it is accepted.
pub record LeavesBy (g : Group) (s : State) (events : List Event) (j m : ℕ) (n : NoteBody) : Type 0 where
  pub of_member : n.member ≡ m
  pub leaving : is_leaving n ≡ true
  pub accepted : IsNoteAcceptedAt g s events j n

-- The removal of m at place j rests on the accusation accepted at place i: the event at j is a tick, and the
-- accusation stood in each state between, for the timeout at least.
pub record RestsOn (g : Group) (s : State) (events : List Event) (j m i : ℕ) (a : AccBody) : Type 0 where
  pub tick : slice_get events j ≡ Some Ticks
  pub earlier : i < j
  pub against : a.accused ≡ m
  pub accepted : IsAcceptedAt g s events i a
  pub stood : (k : ℕ) → i < k → k ≤ j → stands (state_at g s events k) a ≡ true
  pub timeout : (state_at g s events (i + 1)).moment + g.timeout ≤ (state_at g s events (j + 1)).moment

-- What a removal of m at place j has for its cause: a note by which m leaves, or an accusation on which it rests.
pub data Departs (g : Group) (s : State) (events : List Event) (j m : ℕ) : Type 0 where
  ByNote : (n : NoteBody) → LeavesBy g s events j m n → Departs g s events j m
  ByAccusation : (i : ℕ) (a : AccBody) → RestsOn g s events j m i a → Departs g s events j m

-- Each removal has such a cause.
abbrev pub IsJustified : Group → State → List Event → Type 0
IsJustified g s events = (j m : ℕ) → j < length events → IsRemovedAt g s events j m → Departs g s events j m
