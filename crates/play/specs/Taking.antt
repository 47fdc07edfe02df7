-- What a run takes of a text, line by line, and what its script is given of each: where long lines are cut, and where they
-- are passed.
use Rattle.std.specs.Prelude.{◌≡◌, ℕ, ◌<◌, ◌≤◌, ◌⊎◌, true, List, [], ◌∷◌, ◌++◌, length, map, Option, Some, None, Result, Ok, Err}
use Rattle.std.specs.Io.KnownBytes.{Consumes}
use Rattle.std.specs.Option.{option_map}
use Rattle.ports.specs.Contents.{IsUsedUp}
use Rattle.ports.specs.declared.Ending.{Ending}
use Rattle.ports.specs.declared.Ending.TheVariants as ending
use Rattle.ports.specs.declared.Failed.{Failed}
use Rattle.ports.specs.LineReading.{EndsBy, IsRest, PassesLine, PassesPart}
use Rattle.text_trace.specs.Lines.{has_no_feed, line_bytes, AreWhole, IsCut, IsFed}
use Rattle.text_trace.specs.Long.{AreEnded, IsEnded, shortened}
use Rattle.play.specs.declared.long_lines.LongLines.{LongLines}
use Rattle.play.specs.declared.long_lines.LongLines.TheVariants as long

-- ## What the script is given

-- What the script is given of a line.
abbrev pub given_line : LongLines → List ℕ → List ℕ
given_line long.Cut line = line
given_line long.Passed line = shortened line

-- What it is given of lines.
abbrev pub given : LongLines → List (List ℕ) → List (List ℕ)
given long.Cut lines = lines
given long.Passed lines = map shortened lines

-- What it is given of the line behind them, if there is one.
abbrev pub given_last : LongLines → Option (List ℕ) → Option (List ℕ)
given_last long.Cut last = last
given_last long.Passed last = option_map shortened last

-- ## What was taken

-- The bytes are these lines, which may all be taken by the script.
abbrev pub AreTaken : LongLines → List (List ℕ) → List ℕ → Type 0
AreTaken long.Cut lines bytes = AreWhole lines bytes
AreTaken long.Passed lines bytes = AreEnded lines bytes

-- The line may be taken by the script.
abbrev pub IsTaken : LongLines → List ℕ → Type 0
IsTaken long.Cut line = IsFed line
IsTaken long.Passed line = IsEnded line

-- The bytes of the line behind whole lines, if there is one.
abbrev pub bytes_of : Option (List ℕ) → List ℕ
bytes_of None = []
bytes_of (Some line) = line

-- Some bytes without a line feed were all that was left of the text.
pub record IsUnended (line : List ℕ) (left : Option (List ℕ)) : Type 0 where
  pub some : 0 < length line
  pub rest : IsRest line left

-- Some bytes without a line feed were all that was left of the text, however many.
pub record IsUnfed (line : List ℕ) (left : Option (List ℕ)) : Type 0 where
  pub some : 0 < length line
  pub clear : has_no_feed line ≡ true
  pub used_up : IsUsedUp left

-- A line was taken: with its line feed, or what was left of the text; or where long lines are cut, as much as is seen of a
-- longer one.
abbrev pub IsOne : LongLines → List ℕ → Option (List ℕ) → Type 0
IsOne long.Cut line left = IsFed line ⊎ (IsCut line ⊎ IsUnended line left)
IsOne long.Passed line left = IsEnded line ⊎ IsUnfed line left

-- The line behind whole lines; with none, the text is at its end.
abbrev pub IsLastBy : LongLines → Option (List ℕ) → Option (List ℕ) → Type 0
IsLastBy l None left = IsUsedUp left
IsLastBy l (Some line) left = IsOne l line left

-- The part of a line that was taken as a read failed is no longer than this.
abbrev pub IsPartBy : LongLines → List ℕ → Type 0
IsPartBy long.Cut part = length part ≤ line_bytes
IsPartBy long.Passed part = Unit {0}

-- ## What taking a line leaves

-- What ended the bytes that were taken.
abbrev pub StandsBy : LongLines → Ending → List ℕ → Option (List ℕ) → Type 0
StandsBy long.Cut by bytes left = EndsBy by bytes left
StandsBy long.Passed ending.Feed bytes left = IsEnded bytes
StandsBy long.Passed ending.Limit bytes left = ⊥
StandsBy long.Passed ending.Input bytes left = (has_no_feed bytes ≡ true) × IsUsedUp left

-- The line was given, of bytes that were taken from those left and end so.
pub record TakesWhole (l : LongLines) (before after : Option (List ℕ)) (line : List ℕ) (by : Ending) : Type 0 where
  pub bytes : List ℕ
  pub front : Consumes before after bytes
  pub is : line ≡ given_line l bytes
  pub stands : StandsBy l by bytes after

-- Bytes were taken from those left that are no whole line yet.
pub record TakesPart (l : LongLines) (before after : Option (List ℕ)) : Type 0 where
  pub bytes : List ℕ
  pub front : Consumes before after bytes
  pub clear : has_no_feed bytes ≡ true
  pub short : IsPartBy l bytes

abbrev pub TakesLine : LongLines → Option (List ℕ) → Option (List ℕ) → List ℕ → Result Ending Failed → Type 0
TakesLine l before after line (Ok by) = TakesWhole l before after line by
TakesLine l before after line (Err _) = TakesPart l before after

-- The rest of a line that was cut was passed over, and its line feed stands behind what was given of it, where it has one.
abbrev pub PassesRest : Option (List ℕ) → Option (List ℕ) → List ℕ → List ℕ → Result Ending Failed → Type 0
PassesRest before after line longer (Ok ending.Feed) = PassesLine before after × (longer ≡ line ++ 10 ∷ [])
PassesRest before after line longer (Ok ending.Limit) = ⊥
PassesRest before after line longer (Ok ending.Input) = (PassesPart before after × IsUsedUp after) × (longer ≡ line)
PassesRest before after line longer (Err _) = PassesPart before after
