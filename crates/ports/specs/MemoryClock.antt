-- A clock in memory.
use Rattle.std.specs.Prelude.{ℕ, ◌≤◌, List, [], ◌∷◌}

-- the last reading, 0 before any, and those to come
pub record MemoryClockState : Type 0 where
  pub reading : ℕ
  pub coming : List ℕ

-- From this reading on, none of these is below the one before.
abbrev pub NeverFalls : ℕ → List ℕ → Type 0
NeverFalls last [] = Unit {0}
NeverFalls last (time ∷ later) = (last ≤ time) × NeverFalls time later
