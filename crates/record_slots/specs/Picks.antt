-- What fits of a list of records, each of which is so long.
use Rattle.std.specs.Prelude.{ℕ, ◌+◌, ◌-◌, ◌<◌, ◌≤◌, nat_le, if◌then◌else◌, List, [], ◌∷◌, length, take}
use Rattle.std.specs.List.{filter_map}
use Rattle.ff_ids.specs.declared.summary.RecordKey.{RecordKey}
use Rattle.record_slots.specs.Held.{HeldOf, held_under}

-- what is held under the keys that have something, in the order of the keys
abbrev pub held_all : {X : Type 0} → HeldOf X → List RecordKey → List X
held_all held ks = filter_map (held_under held) ks

-- how long they are together
abbrev pub total : {X : Type 0} → (X → ℕ) → List X → ℕ
total long [] = 0
total long (x ∷ xs) = long x + total long xs

-- How many of them fit into the room, one behind the other, up to the first that doesn't.
abbrev pub fitting : {X : Type 0} → (X → ℕ) → ℕ → List X → ℕ
fitting long room [] = 0
fitting long room (x ∷ xs) = if nat_le (long x) room then 1 + fitting long (room - long x) xs else 0

-- So many of them are the longest front that fits.
pub record IsLongestFit {X : Type 0} (long : X → ℕ) (room : ℕ) (xs : List X) (count : ℕ) : Type 0 where
  pub within : count ≤ length xs
  pub fits : total long (take count xs) ≤ room
  pub longest : (more : ℕ) → count < more → more ≤ length xs → room < total long (take more xs)
