-- What is written for lines: its whole lines, and what those that give a removal say.
use Rattle.std.specs.Prelude.{◌≡◌, ℕ, true, List, [], ◌∷◌, ◌++◌, Contains}
use Rattle.std.specs.List.{AllByRecursion, concat}
use Rattle.life_events.specs.declared.event.What.TheVariants as what
use Rattle.life_events.specs.Events.{event_text}
use Rattle.text_trace.specs.Lines.{has_no_feed}
use Rattle.trace.specs.Answers.{Recorded}
use Rattle.trace.specs.Lives.{IsRemoval}
use Rattle.trace.specs.Walk.{lives_in, walk_over}

-- The bytes are a line: its only line feed ends it.
pub record IsWholeLine (line : List ℕ) : Type 0 where
  pub front : List ℕ
  pub clear : has_no_feed front ≡ true
  pub ended : line ≡ front ++ 10 ∷ []

-- The line is a whole line of what was written: whole lines stand before it.
pub record IsLineOf (line written : List ℕ) : Type 0 where
  pub earlier : List (List ℕ)
  pub after : List ℕ
  pub whole : AllByRecursion IsWholeLine earlier
  pub here : IsWholeLine line
  pub parts : written ≡ concat earlier ++ (line ++ after)

-- The line that gives a removal.
abbrev pub removal_line : ℕ → ℕ → List ℕ
removal_line moment m = event_text (record { moment = moment; what = what.Removed m }) ++ 10 ∷ []

-- A life of the walk over these lines reports a removal that this line gives: by a leaving note, or by a tick, resting on
-- an accusation.
pub record IsReported (lines : List (List ℕ)) (line : List ℕ) : Type 0 where
  pub life : Recorded
  pub moment : ℕ
  pub member : ℕ
  pub recorded : Contains (lives_in (walk_over lines)) life
  pub spelled : line ≡ removal_line moment member
  pub removal : IsRemoval life moment member

-- Each whole line of what was written for these lines that gives a removal is the report of an event of a life: of a leaving
-- note, or of a tick, resting on an accusation.
abbrev pub IsJustified : List (List ℕ) → List ℕ → Type 0
IsJustified lines written = (moment m : ℕ) → IsLineOf (removal_line moment m) written → IsReported lines (removal_line moment m)

-- Each removal that a life of the walk over these lines reports is a line of what was written.
abbrev pub IsTold : List (List ℕ) → List ℕ → Type 0
IsTold lines written = (r : Recorded) (moment m : ℕ) → Contains (lives_in (walk_over lines)) r → IsRemoval r moment m → IsLineOf (removal_line moment m) written
