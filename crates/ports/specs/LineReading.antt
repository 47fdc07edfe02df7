-- What reading a line leaves, and what passing over the rest of one does.
use Rattle.std.specs.Prelude.{◌≡◌, ℕ, ◌≤◌, Bool, true, false, List, length, Option, Result, Ok, Err}
use Rattle.std.specs.Io.KnownBytes.{Consumes}
use Rattle.ports.specs.Contents.{IsUsedUp}
use Rattle.ports.specs.declared.Failed.{Failed}
use Rattle.text_trace.specs.Lines.{has_no_feed, line_bytes, IsCut, IsFed}
use Rattle.text_trace.specs.Long.{IsEnded}
use Rattle.ports.specs.declared.Ending.{Ending}
use Rattle.ports.specs.declared.Ending.TheVariants as ending

-- The bytes are all that was left, and have no line feed.
pub record IsRest (line : List ℕ) (left : Option (List ℕ)) : Type 0 where
  pub clear : has_no_feed line ≡ true
  pub short : length line ≤ line_bytes
  pub used_up : IsUsedUp left

abbrev pub EndsBy : Ending → List ℕ → Option (List ℕ) → Type 0
EndsBy ending.Feed line left = IsFed line
EndsBy ending.Limit line left = IsCut line
EndsBy ending.Input line left = IsRest line left

-- The bytes were taken from those left, and end so.
pub record ReadsWhole (before after : Option (List ℕ)) (line : List ℕ) (by : Ending) : Type 0 where
  pub front : Consumes before after line
  pub ends : EndsBy by line after

-- The bytes were taken from those left, and are no whole line yet.
pub record ReadsPart (before after : Option (List ℕ)) (line : List ℕ) : Type 0 where
  pub front : Consumes before after line
  pub clear : has_no_feed line ≡ true
  pub short : length line ≤ line_bytes

abbrev pub ReadsLine : Option (List ℕ) → Option (List ℕ) → List ℕ → Result Ending Failed → Type 0
ReadsLine before after line (Ok by) = ReadsWhole before after line by
ReadsLine before after line (Err _) = ReadsPart before after line

-- The source may be read again.
abbrev pub is_going : Result Ending Failed → Bool
is_going (Ok ending.Feed) = true
is_going (Ok ending.Limit) = true
is_going (Ok ending.Input) = false
is_going (Err _) = false

-- Bytes that end with their only line feed were passed over.
pub record PassesLine (before after : Option (List ℕ)) : Type 0 where
  pub bytes : List ℕ
  pub front : Consumes before after bytes
  pub ended : IsEnded bytes

-- Bytes without a line feed were passed over.
pub record PassesPart (before after : Option (List ℕ)) : Type 0 where
  pub bytes : List ℕ
  pub front : Consumes before after bytes
  pub clear : has_no_feed bytes ≡ true

-- What was passed over, by the answer whether a line feed came; where none did, all that was left.
abbrev pub Passes : Option (List ℕ) → Option (List ℕ) → Result Bool Failed → Type 0
Passes before after (Ok true) = PassesLine before after
Passes before after (Ok false) = PassesPart before after × IsUsedUp after
Passes before after (Err _) = PassesPart before after

-- The source may be read again.
abbrev pub has_passed : Result Bool Failed → Bool
has_passed (Ok fed) = fed
has_passed (Err _) = false
