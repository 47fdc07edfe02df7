-- Kept: the accusations that stand, each with the tick since when, in order of the accused, then of the ring.
use Rattle.std.specs.Prelude.{◌≡◌, ℕ, ◌+◌, ◌*◌, ◌<◌, ◌≤◌, Bool, true, ◌&&◌, ◌==◌, List, [], ◌∷◌, ◌++◌, Option, Some, None, IfSome, is_some, length, find, slice_index_or}
use Rattle.std.specs.List.{AllByRecursion}
use Rattle.std.specs.List.Sorted.{IsPermutation}
use Rattle.std.specs.Option.{option_map_or}
use Rattle.ff_ids.specs.declared.TheConstants.{MAX_RINGS, MEMBERS}
use Rattle.ff_ids.specs.declared.AccBody.{AccBody}
use Rattle.ff_ids.specs.Steps.{precedes}
use Rattle.removal_timer.specs.declared.queue.TheConstants.{END}
use Rattle.removal_timer.specs.Queue.{is_queued}
use Rattle.removal_timer.specs.Tally.{AreTallied}
use Rattle.removal_timer.specs.declared.tally.Tallies.{Tallies}

-- What the timers of one group keep: how many rings it has, for how many ticks an accusation stands before it
-- is due, and the accusations with the ticks of their acceptance.
pub record Kept : Type 0 where
  pub rings : ℕ
  pub timeout : ℕ
  pub entries : List (AccBody × ℕ)

-- It is against this member, on this ring.
abbrev pub is_at : ℕ → ℕ → AccBody × ℕ → Bool
is_at accused ring p = (p.0.accused == accused) && (p.0.ring.0 == ring)

-- The entry against this member on this ring, or none where there is none.
abbrev pub entry_at : ℕ → ℕ → List (AccBody × ℕ) → Option (AccBody × ℕ)
entry_at accused ring entries = find (is_at accused ring) entries

-- Each is against a member, on a ring of the group, and comes before all later ones. So no two are against
-- one member on one ring.
abbrev pub IsInOrder : ℕ → List (AccBody × ℕ) → Type 0
IsInOrder rings [] = Unit {0}
IsInOrder rings (p ∷ entries) = (p.0.accused < MEMBERS) × (p.0.ring.0 < rings) × AllByRecursion (λ q. precedes p.0 q.0 ≡ true) entries × IsInOrder rings entries

-- None of them stands since later than this tick.
abbrev pub AreUntil : ℕ → List (AccBody × ℕ) → Type 0
AreUntil now entries = AllByRecursion (λ p. p.1 ≤ now) entries

-- Behind what a list held it has come to hold these, in some order.
pub record HasGained (before after gained : List AccBody) : Type 0 where
  pub added : List AccBody
  pub behind : after ≡ before ++ added
  pub moved : IsPermutation gained added

-- The number of a member and a ring among all pairs of them.
abbrev pub pair_number : ℕ → ℕ → ℕ
pair_number accused ring = MAX_RINGS * accused + ring

-- The number of the slot of a member and a ring, where there are so many rings.
abbrev pub slot_number : ℕ → ℕ → ℕ → ℕ
slot_number rings accused ring = accused * rings + ring

-- Each comes before all later ones by its number.
abbrev pub AreRising : List AccBody → Type 0
AreRising [] = Unit {0}
AreRising (a ∷ accusations) = AllByRecursion (λ b. pair_number a.accused a.ring.0 < pair_number b.accused b.ring.0) accusations × AreRising accusations

-- The entries in slots, one after another.
abbrev pub entries_in : List (Option (AccBody × ℕ)) → List (AccBody × ℕ)
entries_in [] = []
entries_in (None ∷ slots) = entries_in slots
entries_in (Some p ∷ slots) = p ∷ entries_in slots

abbrev pub slot_at : List (Option (AccBody × ℕ)) → ℕ → Option (AccBody × ℕ)
slot_at slots n = slice_index_or slots n None

-- Since when the entry in the slot stands.
abbrev pub since_at : List (Option (AccBody × ℕ)) → ℕ → ℕ
since_at slots n = option_map_or (λ p. p.1) (slot_at slots n) 0

-- The entry is in the slot of its member and ring, which is one of so many rings.
pub record IsOwn (rings n : ℕ) (p : AccBody × ℕ) : Type 0 where
  pub few : rings ≤ MAX_RINGS
  pub ring : p.0.ring.0 < rings
  pub number : slot_number rings p.0.accused p.0.ring.0 ≡ n

-- None stands since later than those behind it.
abbrev pub AreInTime : List (Option (AccBody × ℕ)) → List ℕ → Type 0
AreInTime slots [] = Unit {0}
AreInTime slots (n ∷ order) = AllByRecursion (λ m. since_at slots n ≤ since_at slots m) order × AreInTime slots order

-- There are slots up to that of some member and ring, and the numbers of those that are filled are queued, in order of the time
-- since when their entries stand.
pub record AreQueued (rings : ℕ) (slots : List (Option (AccBody × ℕ))) (order : List ℕ) : Type 0 where
  pub few : length slots ≤ END
  pub own : (n : ℕ) → IfSome (slot_at slots n) (IsOwn rings n)
  pub filled : (n : ℕ) → is_queued order n ≡ is_some (slot_at slots n)
  pub in_time : AreInTime slots order

-- The slots have room for each member and ring, and what is in them is counted.
pub record IsHeld (rings : ℕ) (slots : List (Option (AccBody × ℕ))) (order : List ℕ) (tallies : Tallies) (capacity : ℕ) : Type 0 where
  pub few : rings ≤ MAX_RINGS
  pub room : END ≤ capacity
  pub queued : AreQueued rings slots order
  pub tallied : AreTallied (entries_in slots) tallies
