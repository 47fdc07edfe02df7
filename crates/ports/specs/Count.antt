-- Counts of faults. They never fall, and stand still at the end of their type.
use Rattle.std.specs.Prelude.{ℕ, ◌+◌, ◌≤◌, min, Bool, if◌then◌else◌}

-- the largest count
abbrev pub last_count : ℕ
last_count = 18446744073709551615

-- a count after one more
abbrev pub next_count : ℕ → ℕ
next_count n = min (n + 1) last_count

-- the count after a call: raised by one where it failed, or still at its top
abbrev pub counted : Bool → ℕ → ℕ
counted failed n = if failed then next_count n else n

-- a count rose, or stood at the end of its type already
abbrev pub Rose : ℕ → ℕ → Type 0
Rose old new = next_count old ≤ new
