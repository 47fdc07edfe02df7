-- The grammar of the direct form, which its table gives; and the reader's progress.
use Rattle.std.specs.Prelude.{ℕ, ◌+◌, ◌≤◌, List, [], Option, Result}
use Rattle.ff_ids.specs.declared.TheConstants.{MAX_TOLERANCE}
use Rattle.line_text.specs.declared.bad_word.BadWord.{BadWord}
use Rattle.line_text.specs.Answers.{Progress, moved, next_line}
use Rattle.line_text.specs.Frame as frame
use Rattle.line_text.specs.Tables as table
use Rattle.schedule_direct.specs.declared.direct.Direct.{Direct}
use Rattle.schedule_direct.specs.declared.direct.Direct.TheVariants as direct
use Rattle.schedule_direct.specs.declared.line.DirectLine.{DirectLine}
use Rattle.schedule_direct.specs.declared.line.DirectLine.TheVariants as lines
use Rattle.schedule_direct.specs.Rows.{direct_table, is_ended, most_ticks, row_for}

-- What holds of each value that a reader reaches.
abbrev pub IsSound : Direct → Type 0
IsSound (direct.Body t ticks) = (t ≤ MAX_TOLERANCE) × (ticks ≤ most_ticks)
IsSound _ = Unit {0}

-- The one spelling of a line.
abbrev pub spelled_words : DirectLine → List (List ℕ)
spelled_words l = table.words_of direct_table direct.Start [] l

-- Where a line may stand: the header first, then the group, then the others.
abbrev pub Stands : Direct → DirectLine → Type 0
Stands d l = table.Stands direct_table d l

-- Each number is in its range there.
abbrev pub InRange : Direct → DirectLine → Type 0
InRange d l = table.InRange direct_table d l

-- These words are this line, which may stand here, with its numbers in range.
abbrev pub IsDirect : Direct → List (List ℕ) → DirectLine → Type 0
IsDirect d ws l = table.Spells direct_table d ws l

-- ## Behind a line

abbrev pub ticked : ℕ → Direct → Direct
ticked n (direct.Body t ticks) = direct.Body t (ticks + n)
ticked n d = d

-- What has been read of the text, with this line behind it.
abbrev pub after : Direct → DirectLine → Direct
after d lines.Header = direct.Headed
after d (lines.Group t timeout) = direct.Body t 0
after d (lines.Tick n) = ticked n d
after d lines.End = direct.Ended
after d _ = d

-- ## A reader of the form

-- Nothing has been read.
abbrev pub opening : Progress Direct
opening = record { number = 1; form = direct.Start }

-- What the next line is, or its first bad word.
abbrev pub judge : Progress Direct → List ℕ → Result DirectLine BadWord
judge p bytes = frame.judge (next_line is_ended row_for p) bytes

abbrev pub first_bad : Progress Direct → List ℕ → Option BadWord
first_bad p bytes = frame.first_bad (next_line is_ended row_for p) bytes

-- These bytes are the next line, and it is l.
abbrev pub IsLine : Progress Direct → List ℕ → DirectLine → Type 0
IsLine p bytes l = frame.IsLine (is_ended p.form) p.number (IsDirect p.form) bytes l

-- the progress behind a line
abbrev pub behind : Progress Direct → DirectLine → Progress Direct
behind p l = moved after p l
