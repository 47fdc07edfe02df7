-- Reading: how far a reader has come.
use Rattle.std.specs.Prelude.{ℕ, ◌+◌, List, drop}

-- what a reader has done and has before it: how many bytes it took, and the bytes left
pub record Reading : Type 0 where
  pub place : ℕ
  pub left : List ℕ

-- a reading of these bytes at its start
abbrev pub reading_of : List ℕ → Reading
reading_of bytes = record { place = 0; left = bytes }

-- the same reading, n bytes later
abbrev pub advanced : ℕ → Reading → Reading
advanced n reading = record { place = reading.place + n; left = drop n reading.left }
