-- What an accepted note rules out in the walk behind it.
use Rattle.std.specs.Prelude.{◌≡◌, ℕ, ◌+◌, ◌<◌, ◌≤◌, false, length, Some, Contains, slice_get}
use Rattle.ff_ids.specs.declared.AccBody.{AccBody}
use Rattle.ff_ids.specs.declared.NoteBody.{NoteBody}
use Rattle.ff_ids.specs.Lives.{IsAcceptedAt, opening, state_at}
use Rattle.ff_ids.specs.Views.{is_unanswered_by}
use Rattle.life_events.specs.declared.event.What.TheVariants as what
use Rattle.life_events.specs.declared.verdict.Verdict.TheVariants as verdicts
use Rattle.life_events.specs.Verdicts.{verdict_words}
use Rattle.life_laws.specs.Removals.{NotesRuleOut}
use Rattle.schedule_direct.specs.declared.line.DirectLine.TheVariants as lines
use Rattle.trace.specs.Answers.{Recorded}
use Rattle.trace.specs.Walk.{Taken, Walk}

-- The line at this place, in this life, was taken with the verdict that accepts it.
pub record AcceptsNote (w : Walk) (place life : ℕ) (n : NoteBody) : Type 0 where
  pub t : Taken
  pub r : Recorded
  pub at : slice_get w.taken place ≡ Some t
  pub during : t.before ≡ Some r
  pub number : r.life ≡ life
  pub line : t.line ≡ lines.Note n
  pub verdict : t.answer.verdict ≡ Some (verdict_words verdicts.Accepted)

pub record AcceptsAccusation (w : Walk) (place life : ℕ) (a : AccBody) : Type 0 where
  pub t : Taken
  pub r : Recorded
  pub at : slice_get w.taken place ≡ Some t
  pub during : t.before ≡ Some r
  pub number : r.life ≡ life
  pub line : t.line ≡ lines.Accuse a
  pub verdict : t.answer.verdict ≡ Some (verdict_words verdicts.Accepted)

-- Under the line at this place, in this life, the accusation is reported as expired, at this moment.
pub record Expires (w : Walk) (place life moment : ℕ) (a : AccBody) : Type 0 where
  pub t : Taken
  pub r : Recorded
  pub at : slice_get w.taken place ≡ Some t
  pub during : t.before ≡ Some r
  pub number : r.life ≡ life
  pub reported : Contains t.answer.events (record { moment = moment; what = what.Expired a })

-- Behind an accepted note no accusation of an older epoch against its member is accepted in that life, or expires.
abbrev pub NoteSupersedes : Walk → Type 0
NoteSupersedes w = (life moment : ℕ) → NotesRuleOut (λ i n. AcceptsNote w i life n) (λ j a. AcceptsAccusation w j life a) (λ j a. Expires w j life moment a)

-- In the life as it stood before a line, the accusation was accepted at a place behind so many events, and at this moment
-- the timeout had passed since.
pub record AcceptedSince (r : Recorded) (behind moment : ℕ) (a : AccBody) : Type 0 where
  pub place : ℕ
  pub later : behind < place
  pub again : IsAcceptedAt r.group (opening r.members) r.events place a
  pub timeout : (state_at r.group (opening r.members) r.events (place + 1)).moment + r.group.timeout ≤ moment

-- An accepted note ends the acceptance of each accusation against its member that it answers: that expires later in the
-- life only where it was accepted again behind the note, and the timeout has passed since.
abbrev pub NoteRevokes : Walk → Type 0
NoteRevokes w = (i j life moment : ℕ) (n : NoteBody) (a : AccBody) → i < j → (note : AcceptsNote w i life n) → a.accused ≡ n.member → is_unanswered_by a n ≡ false
    → (expired : Expires w j life moment a) → AcceptedSince expired.r (length note.r.events) moment a
