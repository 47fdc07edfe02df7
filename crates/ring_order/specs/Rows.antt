-- Places: one row of 32 bytes for each ring.
use Rattle.std.specs.Prelude.{ℕ, Bool, ◌-◌, ◌^◌, if◌then◌else◌, List, ◌++◌, length, replicate, map, drop}
use Rattle.std.specs.List.{list_all}
use Rattle.std.specs.Int.{w32, to_be_bytes, from_be_bytes}
use Rattle.std.specs.Str.{bytes_eq}
use Rattle.ff_ids.specs.declared.TheConstants.{MAX_RINGS}

-- The place that a number stands for: the number in the last four bytes, the highest first, and zeros before.
abbrev pub place_of_number : ℕ → List ℕ
place_of_number n = replicate 28 0 ++ to_be_bytes w32 n

unfoldable pub unused_row : List ℕ
unused_row = replicate 32 0

-- So many unused rows, which are zeros.
unfoldable pub unused : ℕ → List (List ℕ)
unused n = replicate n unused_row

-- The rows, `MAX_RINGS` of them, that begin with the given ones, the rest of them unused, and how many are given.
abbrev pub filled : List (List ℕ) → List (List ℕ) × ℕ
filled rows = (rows ++ unused (MAX_RINGS - length rows), length rows)

-- The last four bytes of a row, as a number.
abbrev pub tail_of : List ℕ → ℕ
tail_of row = from_be_bytes w32 (drop 28 row)

-- The row is the place that a number stands for.
unfoldable pub is_plain : List ℕ → Bool
is_plain row = bytes_eq row (place_of_number (tail_of row))

-- What a row says at once of its order: the number that it is the place of, or, where it is that of none, the greatest
-- number, with which nothing is said.
abbrev pub hint_of : List ℕ → ℕ
hint_of row = if is_plain row then tail_of row else 2 ^ 32 - 1

-- What is kept of rows that are given: `MAX_RINGS` rows, how many are given, the tail of each, and whether all are plain.
abbrev pub kept_of : List (List ℕ) → List (List ℕ) × ℕ × List ℕ × Bool
kept_of rows = ((filled rows).0, (filled rows).1, map tail_of (filled rows).0, list_all is_plain (filled rows).0)
