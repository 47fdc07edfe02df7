-- How counts of faults join, call after call.
use Rattle.std.proofs.Common.{ℕ, ◌≤◌, arith}
use Rattle.ports.specs.Count.{Rose}

-- what rose in one call rose in all that ended later
pub Rose-before : (a b c : ℕ) → Rose a b → b ≤ c → Rose a c
Rose-before a b c rose kept = omega arith

-- what rose in one call rose in all that began earlier
pub Rose-after : (a b c : ℕ) → a ≤ b → Rose b c → Rose a c
Rose-after a b c kept rose = omega arith
