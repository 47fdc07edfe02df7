-- The parts of a line that a reader's buffer has, one after another.
use Rattle.std.specs.Prelude.{◌≡◌, ℕ, ◌<◌, Bool, true, false, List, [], ◌++◌, length, Option, None, Some, Result, Ok, Err}
use Rattle.std.specs.Io.KnownBytes.{Consumes}
use Rattle.ports.specs.Contents.{IsUsedUp}
use Rattle.ports.specs.LineReading.{PassesLine, PassesPart, ReadsWhole}
use Rattle.ports.specs.declared.Ending.TheVariants as ending
use Rattle.text_trace.specs.Lines.{has_no_feed, IsFed}
use Rattle.edges.specs.declared.line_part.Part.{Part}
use Rattle.edges.specs.declared.line_part.Part.TheVariants as part

abbrev pub IsPart : Part → List ℕ → Type 0
IsPart part.Last bytes = IsFed bytes
IsPart part.Front bytes = has_no_feed bytes ≡ true

-- The line gained these bytes, which were taken from those left.
pub record Gained (before after : Option (List ℕ)) (line longer : List ℕ) (p : Part) : Type 0 where
  pub bytes : List ℕ
  pub some : 0 < length bytes
  pub is : IsPart p bytes
  pub grown : longer ≡ line ++ bytes
  pub read : Consumes before after bytes

-- The line is as it was, and nothing was taken.
pub record Kept (before after : Option (List ℕ)) (line longer : List ℕ) : Type 0 where
  pub same : longer ≡ line
  pub read : Consumes before after []

abbrev pub TakesPart : {E : Type 0} → Option (List ℕ) → Option (List ℕ) → List ℕ → List ℕ → Result (Option Part) E → Type 0
TakesPart before after line longer (Ok (Some p)) = Gained before after line longer p
TakesPart before after line longer (Ok None) = Kept before after line longer × IsUsedUp after
TakesPart before after line longer (Err _) = Kept before after line longer

-- a part was taken
abbrev pub took_part : {E : Type 0} → Result (Option Part) E → Bool
took_part (Ok (Some p)) = true
took_part (Ok None) = false
took_part (Err _) = false

-- A whole line was taken, or nothing.
abbrev pub TakesLine : Option (List ℕ) → Option (List ℕ) → List ℕ → Bool → Type 0
TakesLine before after line true = ReadsWhole before after line ending.Feed
TakesLine before after line false = line ≡ []

-- Such a part was passed over.
abbrev pub PassesAs : Part → Option (List ℕ) → Option (List ℕ) → Type 0
PassesAs part.Last before after = PassesLine before after
PassesAs part.Front before after = PassesPart before after

abbrev pub PassesOver : {E : Type 0} → Option (List ℕ) → Option (List ℕ) → Result (Option Part) E → Type 0
PassesOver before after (Ok (Some p)) = PassesAs p before after
PassesOver before after (Ok None) = PassesPart before after × IsUsedUp after
PassesOver before after (Err _) = PassesPart before after
