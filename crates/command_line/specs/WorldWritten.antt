-- What is written for a schedule of a world: its whole lines, and what those that give an event say.
use Rattle.std.specs.Prelude.{◌≡◌, ℕ, List, [], ◌∷◌, ◌++◌, Contains, get_or}
use Rattle.journal.specs.declared.event.What.TheVariants as what
use Rattle.line_text.specs.Answers.{Progress}
use Rattle.schedule_world.specs.declared.text.WorldText.{WorldText}
use Rattle.trace.specs.Written.{IsLineOf}
use Rattle.world_rules.specs.Steps.{NodeEvent}
use Rattle.world_rules.specs.Walk.{Grammar, Walk, events_in, output_of, setting_in, told_text, walk_over}
use Rattle.world_laws.specs.Texts.{world_grammar}
use Rattle.world_text.specs.Lines.{line_text}

-- The form of a schedule of a world, each line with its one spelling.
abbrev pub grammar : Grammar (Progress WorldText)
grammar = world_grammar line_text

-- The walk over the lines of a schedule, what is written for them, and what is reported.
abbrev pub world_walk : List (List ℕ) → Walk
world_walk lines = walk_over grammar setting_in lines

abbrev pub output : List (List ℕ) → List ℕ
output lines = output_of grammar (world_walk lines).taken

abbrev pub told_in : List (List ℕ) → List NodeEvent
told_in lines = events_in (world_walk lines)

-- The line that gives an event in the life of a node.
abbrev pub told_line : NodeEvent → List ℕ
told_line t = told_text t ++ 10 ∷ []

-- The node reported that the member left its view at the moment.
abbrev pub removal : ℕ → ℕ → ℕ → NodeEvent
removal who moment m = record { who = who; event = record { moment = moment; what = what.Removed m } }

-- The line begins as one that gives an event, by the sign `@`.
abbrev pub IsOfEvent : List ℕ → Type 0
IsOfEvent line = get_or line 0 0 ≡ 64

-- Such an event was reported.
pub record IsTold (told : List NodeEvent) (line : List ℕ) : Type 0 where
  pub event : NodeEvent
  pub among : Contains told event
  pub spelled : line ≡ told_line event

-- Such a removal was reported.
pub record IsRemovalTold (told : List NodeEvent) (line : List ℕ) : Type 0 where
  pub who : ℕ
  pub moment : ℕ
  pub member : ℕ
  pub among : Contains told (removal who moment member)
  pub spelled : line ≡ told_line (removal who moment member)

-- Each whole line of what was written that gives an event gives one that was reported; and one that gives a removal, a removal.
pub record GivesTold (told : List NodeEvent) (written : List ℕ) : Type 0 where
  pub events : (line : List ℕ) → IsLineOf line written → IsOfEvent line → IsTold told line
  pub removals : (who moment m : ℕ) → IsLineOf (told_line (removal who moment m)) written → IsRemovalTold told (told_line (removal who moment m))

-- Each event that was reported is a whole line of what was written.
abbrev pub GivesAll : List NodeEvent → List ℕ → Type 0
GivesAll told written = (t : NodeEvent) → Contains told t → IsLineOf (told_line t) written

-- ## The theorems

abbrev pub WrittenLinesAreTold : Type 0
WrittenLinesAreTold = (lines : List (List ℕ)) (written rest : List ℕ) → output lines ≡ written ++ rest → GivesTold (told_in lines) written

abbrev pub ToldEventsAreWritten : Type 0
ToldEventsAreWritten = (lines : List (List ℕ)) → GivesAll (told_in lines) (output lines)
