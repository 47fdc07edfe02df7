-- Contents of an object, where they are modelled, and else `None`. Std's `Consumes`, `Appends` and `Keeps` say what a
-- call did to them, and nothing where none were modelled before it.
use Rattle.std.specs.Prelude.{◌≡◌, ℕ, ◌<◌, Option, None, Some, List, [], length, take, Result, Ok, Err}
use Rattle.std.specs.Io.KnownBytes.{Appends}

-- no byte is left, where the bytes left are modelled
abbrev pub IsUsedUp : Option (List ℕ) → Type 0
IsUsedUp None = Unit {0}
IsUsedUp (Some left) = left ≡ []

-- of these bytes, the front was taken, and not all
pub record TookFront (before after : Option (List ℕ)) (bytes : List ℕ) : Type 0 where
  pub count : ℕ
  pub short : count < length bytes
  pub gained : Appends before after (take count bytes)

-- all of these bytes were taken, or after an error a front of them
abbrev pub Wrote : {T E : Type 0} → Option (List ℕ) → Option (List ℕ) → List ℕ → Result T E → Type 0
Wrote before after bytes (Ok _) = Appends before after bytes
Wrote before after bytes (Err _) = TookFront before after bytes
