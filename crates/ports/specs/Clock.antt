-- A clock: the readings to come.
use Rattle.std.specs.Prelude.{◌≡◌, ℕ, List, [], ◌∷◌, Option, Some, None, drop}

-- the next reading, and the last one again where none is to come
abbrev pub next_reading : ℕ → List ℕ → ℕ
next_reading last [] = last
next_reading last (time ∷ later) = time

-- The next reading is taken.
pub record TakesReading (last : ℕ) (coming : List ℕ) (after : Option (List ℕ)) (reading : ℕ) : Type 0 where
  pub read : reading ≡ next_reading last coming
  pub left : after ≡ Some (drop 1 coming)

-- A clock that is modelled stays so, and one that is not does not begin to be.
abbrev pub ReadsClock : ℕ → Option (List ℕ) → Option (List ℕ) → ℕ → Type 0
ReadsClock last None after reading = after ≡ None
ReadsClock last (Some coming) after reading = TakesReading last coming after reading
