-- What a read did, by its answer.
use Rattle.std.specs.Prelude.{ℕ, ◌<◌, ◌≤◌, Bool, true, false, Option, List, take}
use Rattle.ports.specs.declared.Taken.{Taken}
use Rattle.ports.specs.declared.Taken.TheVariants.{Got, End, Failed}
use Rattle.std.specs.Io.KnownBytes.{Consumes, Keeps}
use Rattle.ports.specs.Contents.{IsUsedUp}

-- the read got bytes, so that the source may be read again
abbrev pub has_got : Taken → Bool
has_got (Got n) = true
has_got End = false
has_got Failed = false

-- the read failed
abbrev pub read_failed : Taken → Bool
read_failed (Got n) = false
read_failed End = false
read_failed Failed = true

-- no more bytes than the buffer holds
abbrev pub GotAtMost : Taken → ℕ → Type 0
GotAtMost (Got n) room = n ≤ room
GotAtMost End room = Unit {0}
GotAtMost Failed room = Unit {0}

-- some byte, where the buffer holds any
abbrev pub GotSome : Taken → ℕ → Type 0
GotSome (Got n) room = 0 < room → 0 < n
GotSome End room = Unit {0}
GotSome Failed room = Unit {0}

-- the bytes left before and after the read that filled the buffer
abbrev pub Reads : Option (List ℕ) → Option (List ℕ) → List ℕ → Taken → Type 0
Reads before after filled (Got n) = Consumes before after (take n filled)
Reads before after filled End = Keeps before after
Reads before after filled Failed = Keeps before after

-- the end comes only where no byte is left
abbrev pub EndsUsedUp : Option (List ℕ) → Taken → Type 0
EndsUsedUp after (Got n) = Unit {0}
EndsUsedUp after End = IsUsedUp after
EndsUsedUp after Failed = Unit {0}
