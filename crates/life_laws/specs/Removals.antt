-- Removals: what each has for its cause, and what an answer rules out.
use Rattle.std.specs.Prelude.{◌≡◌, ℕ, ◌+◌, ◌<◌, ◌≤◌, true, false, List, Some, None, All, Contains, slice_get}
use Rattle.ff_ids.specs.declared.NoteBody.{NoteBody}
use Rattle.ff_ids.specs.declared.AccBody.{AccBody}
use Rattle.ff_ids.specs.declared.Group.{Group}
use Rattle.ff_ids.specs.Views.{Member, State, is_unanswered_by, stands}
use Rattle.ff_ids.specs.Faults.{note_fault}
use Rattle.ff_ids.specs.Steps.{Event, Report, after_note}
use Rattle.ff_ids.specs.Lives.{opening, reports, state_at, IsAcceptedAt, IsJustified, IsNoteAcceptedAt}

-- In every life each removal has a leaving note or an accusation for its cause.
abbrev pub EachLifeIsJustified : Type 0
EachLifeIsJustified = (g : Group) (members : List Member) (events : List Event) → IsJustified g (opening members) events

-- The event at place j reports that the accusation expired.
pub record ExpiresAt (g : Group) (s : State) (events : List Event) (j : ℕ) (a : AccBody) : Type 0 where
  pub report : Report
  pub reported : slice_get (reports g s events) j ≡ Some report
  pub expired : Contains report.expired a

-- The accusation is against the note's member, at an epoch below the note's.
pub record IsOlderThan (a : AccBody) (n : NoteBody) : Type 0 where
  pub against : a.accused ≡ n.member
  pub older : a.epoch < n.epoch

-- Behind an accepted note no accusation of an older epoch against its member is accepted, or expires: for any text of
-- places at which notes and accusations are accepted, and accusations expire.
abbrev pub NotesRuleOut : (ℕ → NoteBody → Type 0) → (ℕ → AccBody → Type 0) → (ℕ → AccBody → Type 0) → Type 0
NotesRuleOut note accepted expires = (i j : ℕ) (n : NoteBody) (a : AccBody) → i < j → note i n → IsOlderThan a n
    → ¬ (accepted j a) × ¬ (expires j a)

-- In this life, from this state on.
abbrev pub RulesOut : Group → State → List Event → Type 0
RulesOut g s events = NotesRuleOut (IsNoteAcceptedAt g s events) (IsAcceptedAt g s events) (ExpiresAt g s events)

-- In every life.
abbrev pub AnswersHold : Type 0
AnswersHold = (g : Group) (s : State) (events : List Event) → RulesOut g s events

-- An accepted note ends each acceptance against its member that it answers: what stays is at its epoch, on a
-- ring that it enables.
abbrev pub AnswerEndsAcceptance : Type 0
AnswerEndsAcceptance = (g : Group) (s : State) (n : NoteBody) → note_fault g.t s n ≡ None → All (λ q. q.0.accused ≡ n.member → is_unanswered_by q.0 n ≡ true) (after_note s n).state.kept

-- Behind place i the accusation was accepted, and it stood in each state up to place j, for the timeout at least.
pub record StoodSince (g : Group) (s : State) (events : List Event) (i j : ℕ) (a : AccBody) : Type 0 where
  pub place : ℕ
  pub later : i < place
  pub earlier : place < j
  pub again : IsAcceptedAt g s events place a
  pub stood : (k : ℕ) → place < k → k ≤ j → stands (state_at g s events k) a ≡ true
  pub timeout : (state_at g s events (place + 1)).moment + g.timeout ≤ (state_at g s events (j + 1)).moment

-- In this life, from this state on: what an accepted note answers expires later only where it was accepted again behind
-- the note, and stood for the timeout since.
abbrev pub Revokes : Group → State → List Event → Type 0
Revokes g s events = (i j : ℕ) (n : NoteBody) (a : AccBody) → i < j → IsNoteAcceptedAt g s events i n
    → a.accused ≡ n.member → is_unanswered_by a n ≡ false → ExpiresAt g s events j a → StoodSince g s events i j a

-- In every life.
abbrev pub AnswersRevoke : Type 0
AnswersRevoke = (g : Group) (members : List Member) (events : List Event) → Revokes g (opening members) events
