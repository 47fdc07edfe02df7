-- What a write did, by its answer.
use Rattle.std.specs.Prelude.{ℕ, ◌<◌, ◌≤◌, Bool, true, false, Option, List, take}
use Rattle.ports.specs.declared.Given.{Given}
use Rattle.ports.specs.declared.Given.TheVariants.{Took, Failed}
use Rattle.std.specs.Io.KnownBytes.{Appends, Keeps}

-- the write took bytes, so that the sink may be written to again
abbrev pub has_taken : Given → Bool
has_taken (Took n) = true
has_taken Failed = false

-- the write failed
abbrev pub write_failed : Given → Bool
write_failed (Took n) = false
write_failed Failed = true

-- no more bytes than the piece has
abbrev pub TookAtMost : Given → ℕ → Type 0
TookAtMost (Took n) size = n ≤ size
TookAtMost Failed size = Unit {0}

-- some byte, where the piece has any
abbrev pub TookSome : Given → ℕ → Type 0
TookSome (Took n) size = 0 < size → 0 < n
TookSome Failed size = Unit {0}

-- the bytes taken before and after the write of the piece
abbrev pub Gives : Option (List ℕ) → Option (List ℕ) → List ℕ → Given → Type 0
Gives before after piece (Took n) = Appends before after (take n piece)
Gives before after piece Failed = Keeps before after
