-- The grammar of the world form, which its table gives: which words are which line, where, and in which ranges; and the
-- reader's progress.
use Rattle.std.specs.Prelude.{◌≡◌, ℕ, ◌+◌, ◌≤◌, ◌<◌, ◌||◌, Bool, true, false, List, [], ◌∷◌, ◌++◌, length, Option, Result}
use Rattle.std.specs.List.{Contains}
use Rattle.ff_ids.specs.declared.TheConstants.{LAST_MEMBER, MAX_TOLERANCE}
use Rattle.sign_keys.specs.Kinds.{fits}
use Rattle.line_text.specs.declared.bad_word.BadWord.{BadWord}
use Rattle.line_text.specs.Answers.{Progress, moved, next_line}
use Rattle.line_text.specs.Frame as frame
use Rattle.line_text.specs.Shapes as shapes
use Rattle.line_text.specs.Tables as table
use Rattle.schedule_world.specs.declared.line.WorldLine.{WorldLine}
use Rattle.schedule_world.specs.declared.line.WorldLine.TheVariants as lines
use Rattle.schedule_world.specs.declared.text.WorldText.{WorldText}
use Rattle.schedule_world.specs.declared.text.WorldText.TheVariants as world
use Rattle.schedule_world.specs.Rows.{epoch_or_now, is_ended, most_members, most_ticks, row_for, tolerance, world_table}

-- What holds of each value that a reader reaches.
abbrev pub IsSound : WorldText → Type 0
IsSound (world.Grouped t) = t ≤ MAX_TOLERANCE
IsSound (world.Roster t heal names node) = t ≤ MAX_TOLERANCE
IsSound (world.Body t ticks) = (t ≤ MAX_TOLERANCE) × (ticks ≤ most_ticks)
IsSound _ = Unit {0}

-- the members that a roster has named
abbrev pub named : WorldText → List ℕ
named (world.Roster t heal names node) = names
named _ = []

-- the ticks so far
abbrev pub ticks_of : WorldText → ℕ
ticks_of (world.Body t ticks) = ticks
ticks_of _ = 0

-- ## Words

-- the word of an epoch, or `now`
abbrev pub spelled_epoch : Option ℕ → List ℕ
spelled_epoch epoch = shapes.word_for [] epoch_or_now epoch

-- The words of a line, where these digits spell the bytes that it has.
abbrev pub spelled_words : List ℕ → WorldLine → List (List ℕ)
spelled_words digits l = table.words_of world_table world.Start digits l

-- ## Places and ranges

-- Where a line may stand: the header first, then the group, then the kinds, then `heal` if it comes, then the roster, then the
-- others.
abbrev pub Stands : WorldText → WorldLine → Type 0
Stands w l = table.Stands world_table w l

-- The member is named for the first time, as one of 32.
pub record IsNewcomer (names : List ℕ) (m : ℕ) : Type 0 where
  pub range : m ≤ LAST_MEMBER
  pub few : length names < most_members
  pub unnamed : Contains names m → ⊥

abbrev pub IsEpoch : Option ℕ → Type 0
IsEpoch epoch = shapes.InRange epoch_or_now epoch

-- Each number is in its range, there are keys of the kinds, the bytes are no more than there may be, and a name is one.
abbrev pub InRange : WorldText → WorldLine → Type 0
InRange w (lines.Kinds ots tree bottom) = table.InRange world_table w (lines.Kinds ots tree bottom) × (fits ots tree bottom ≡ true)
InRange w l = table.InRange world_table w l

-- These words are this line, which may stand here, with its numbers, bytes and name in range.
abbrev pub IsWorld : WorldText → List (List ℕ) → WorldLine → Type 0
IsWorld w ws l = table.Spells world_table w ws l

-- ## Behind a line

-- a roster below a line `heal`
abbrev pub below_heal : WorldText → WorldText
below_heal (world.Roster t heal names node) = world.Roster t true names node
below_heal w = w

-- a roster with one more member, a node or a liar
abbrev pub with_member : ℕ → Bool → WorldText → WorldText
with_member m is_node (world.Roster t heal names node) = world.Roster t heal (names ++ m ∷ []) (node || is_node)
with_member m is_node w = w

abbrev pub ticked : ℕ → WorldText → WorldText
ticked n (world.Body t ticks) = world.Body t (ticks + n)
ticked n w = w

abbrev pub after : WorldText → WorldLine → WorldText
after w lines.Header = world.Headed
after w (lines.Group g) = world.Grouped g.t
after w (lines.Kinds ots tree bottom) = world.Roster (tolerance w) false [] false
after w (lines.Heal h) = below_heal w
after w (lines.Node m) = with_member m true w
after w (lines.Liar m) = with_member m false w
after w lines.Begin = world.Body (tolerance w) 0
after w (lines.Tick m n) = ticked n w
after w lines.End = world.Ended
after w _ = w

-- ## A reader of the form

-- Nothing has been read.
abbrev pub opening : Progress WorldText
opening = record { number = 1; form = world.Start }

-- What the next line is, or its first bad word.
abbrev pub judge : Progress WorldText → List ℕ → Result WorldLine BadWord
judge p bytes = frame.judge (next_line is_ended row_for p) bytes

abbrev pub first_bad : Progress WorldText → List ℕ → Option BadWord
first_bad p bytes = frame.first_bad (next_line is_ended row_for p) bytes

-- These bytes are the next line, and it is l.
abbrev pub IsLine : Progress WorldText → List ℕ → WorldLine → Type 0
IsLine p bytes l = frame.IsLine (is_ended p.form) p.number (IsWorld p.form) bytes l

-- the progress behind a line
abbrev pub behind : Progress WorldText → WorldLine → Progress WorldText
behind p l = moved after p l
