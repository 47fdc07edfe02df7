-- The one walk over a recorded text. What is written, what refuses the text, and the lives that are recorded are all
-- read off it.
use Rattle.std.specs.Prelude.{ℕ, List, [], ◌∷◌, ◌++◌, Option, Some, None, Result, Ok, Err, flat_map, if◌then◌else◌, option_to_list}
use Rattle.life_events.specs.declared.event.Event as reported
use Rattle.line_text.specs.declared.bad_word.BadWord.{BadWord}
use Rattle.line_text.specs.declared.bad_word.BadWord.TheVariants as words
use Rattle.schedule_direct.specs.declared.line.DirectLine.{DirectLine}
use Rattle.schedule_direct.specs.declared.line.DirectLine.TheVariants as lines
use Rattle.line_text.specs.Answers.{Progress}
use Rattle.schedule_direct.specs.declared.direct.Direct.{Direct}
use Rattle.schedule_direct.specs.Grammar as grammar
use Rattle.schedule_direct.specs.Rows.{is_ended}
use Rattle.text_trace.specs.Lines.{seen}
use Rattle.text_trace.specs.Trace.{Continuation, Trace}
use Rattle.trace.specs.Answers.{Answer, Recorded, answer, told}

-- A line that is taken: its bytes, the life that was being recorded before it, the line, and what it brought.
pub record Taken : Type 0 where
  pub bytes : List ℕ
  pub before : Option Recorded
  pub line : DirectLine
  pub answer : Answer

-- The lines that are taken, one after another; the life that is being recorded behind them; and what refuses the text,
-- if anything does.
pub record Walk : Type 0 where
  pub taken : List Taken
  pub recorded : Option Recorded
  pub cause : Option BadWord

abbrev pub onto : Taken → Walk → Walk
onto t w = record { taken = t ∷ w.taken; recorded = w.recorded; cause = w.cause }

-- A refused line ends the walk; after a taken one it goes on.
abbrev pub from_line : Option Recorded → List ℕ → Result DirectLine BadWord → (DirectLine → Walk) → Walk
from_line recorded bytes (Ok line) rest = onto (record { bytes = bytes; before = recorded; line = line; answer = answer recorded line }) (rest line)
from_line recorded bytes (Err word) rest = record { taken = []; recorded = recorded; cause = Some word }

-- The text may end only behind its last line.
abbrev pub end_fault : Progress Direct → Option BadWord
end_fault p = if is_ended p.form then None else Some words.End

-- The walk over the lines, where so much was read before them and this life is being recorded.
abbrev pub walk : List (List ℕ) → Progress Direct → Option Recorded → Walk
walk [] p recorded = record { taken = []; recorded = recorded; cause = end_fault p }
walk (bytes ∷ lines) p recorded =
    from_line recorded bytes (grammar.judge p bytes) (λ line. walk lines (grammar.behind p line) (answer recorded line).recorded)

-- The walk over the lines of a text.
abbrev pub walk_over : List (List ℕ) → Walk
walk_over lines = walk lines grammar.opening None

-- ## What is read off a walk

-- What is written for the lines.
abbrev pub output_of : List Taken → List ℕ
output_of taken = flat_map (λ t. told t.bytes t.answer) taken

-- The trace.
abbrev pub trace_in : Walk → Trace BadWord
trace_in w = record { output = output_of w.taken; cause = w.cause }

-- The events that are reported.
abbrev pub events_in : Walk → List reported.Event
events_in w = flat_map (λ t. t.answer.events) w.taken

-- The life that a line leaves behind, if it begins another.
abbrev pub left_behind : Option Recorded → DirectLine → List Recorded
left_behind recorded lines.Life = option_to_list recorded
left_behind recorded _ = []

-- The lives, each as it ends: at a line that begins another, and the last behind all the lines that are taken.
abbrev pub lives_in : Walk → List Recorded
lives_in w = flat_map (λ t. left_behind t.before t.line) w.taken ++ option_to_list w.recorded

-- ## A text

-- What is owed for the lines, where so much was read before them and this life is being recorded.
abbrev pub played : Progress Direct → Option Recorded → Continuation BadWord
played p recorded = λ lines. trace_in (walk lines p recorded)

-- What is owed for the lines of a whole text.
abbrev pub replayed : Continuation BadWord
replayed = played grammar.opening None

-- The trace of a text.
abbrev pub trace_of : List ℕ → Trace BadWord
trace_of text = replayed (seen text)
