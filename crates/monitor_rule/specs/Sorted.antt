-- How the joined members are kept: the places of each by its number, and on each ring the numbers of all in order of
-- their keys.
use Rattle.std.specs.Prelude.{◌≡◌, ℕ, ◌+◌, ◌-◌, ◌^◌, ◌<◌, ◌≤◌, Bool, true, false, List, [], ◌∷◌, Option, Some, None, length, map, is_some, unwrap_or, slice_index, slice_index_or, All, Contains}
use Rattle.std.specs.List.{range_with_len}
use Rattle.std.specs.Option.{IsSomeAnd, IfSome}
use Rattle.ff_ids.specs.declared.TheConstants.{MAX_RINGS, MEMBERS}
use Rattle.ff_ids.specs.Rings.{Key, is_below}
use Rattle.ff_ids.specs.Views.{Member, key_at}
use Rattle.ring_order.specs.Rows.{hint_of}
use Rattle.ring_order.specs.Ranks.{Ranked}

-- The places of the number's member, or none where it hasn't joined.
abbrev pub places_at : List (Option (List (List ℕ))) → ℕ → Option (List (List ℕ))
places_at slots n = slice_index_or slots n None

-- The members whose places are in the slots, the first of which is that of this number.
abbrev pub members_from : ℕ → List (Option (List (List ℕ))) → List Member
members_from n [] = []
members_from n (None ∷ slots) = members_from (n + 1) slots
members_from n (Some places ∷ slots) = record { number = n; places = places } ∷ members_from (n + 1) slots

-- The key on the ring of the member of this number.
abbrev pub key_in : List (Option (List (List ℕ))) → ℕ → ℕ → Key
key_in slots ring n = key_at ring (unwrap_or (places_at slots n) []) n

-- A ring, the numbers of those on it, by number the hints of their places there beside the numbers, and whether it is known
-- that all of these hints tell.
pub record RingOrder : Type 0 where
  pub ring : ℕ
  pub order : List ℕ
  pub ranks : List Ranked
  pub told : Bool

-- The ring without anybody.
abbrev pub emptied : RingOrder → RingOrder
emptied row = record row { order = []; told = true }

-- The key of the number at an index of a ring.
abbrev pub key_of_index : List (Option (List (List ℕ))) → RingOrder → ℕ → Key
key_of_index slots row i = key_in slots row.ring (slice_index row.order i)

-- The hint of the place on the ring.
abbrev pub hint_on : ℕ → List (List ℕ) → ℕ
hint_on ring places = hint_of (slice_index_or places ring [])

-- On the ring are those that have joined, each once, in order of their keys.
pub record IsRow (slots : List (Option (List (List ℕ)))) (row : RingOrder) : Type 0 where
  pub rising : (i j : ℕ) → i < j → j < length row.order → is_below (key_of_index slots row i) (key_of_index slots row j) ≡ true
  pub joined : (i : ℕ) → i < length row.order → IsSomeAnd (places_at slots (slice_index row.order i)) (λ places. row.ring < length places)
  pub listed : (n : ℕ) → is_some (places_at slots n) ≡ true → Contains row.order n
  pub count : length row.order ≡ length (members_from 0 slots)
  pub ranked : (n : ℕ) (d : Ranked) → IfSome (places_at slots n) (λ places. slice_index_or row.ranks n d ≡ record { hint = hint_on row.ring places; number = n })
  pub telling : (n : ℕ) → row.told ≡ true → IfSome (places_at slots n) (λ places. hint_on row.ring places < 2 ^ 32 - 1)

-- Those before the first index are below the key, and those from the second on aren't.
pub record IsBetween (slots : List (Option (List (List ℕ)))) (row : RingOrder) (q : Key) (low high : ℕ) : Type 0 where
  pub ordered : low ≤ high
  pub within : high ≤ length row.order
  pub below : (i : ℕ) → i < low → is_below (key_of_index slots row i) q ≡ true
  pub above : (i : ℕ) → high ≤ i → i < length row.order → is_below (key_of_index slots row i) q ≡ false

-- From this ring on, each of these is the index of the member's key on its ring.
abbrev pub AreFound : List (Option (List (List ℕ))) → List (List ℕ) → ℕ → List ℕ → List RingOrder → ℕ → Type 0
AreFound slots places m found rows from = (k : ℕ) (d : RingOrder) → from ≤ k → k < length rows
    → IsBetween slots (slice_index_or rows k d) (key_at (slice_index_or rows k d).ring places m) (slice_index found k) (slice_index found k)

-- There is a slot for each number, and a row for each ring.
pub record IsKept (slots : List (Option (List (List ℕ)))) (rows : List RingOrder) : Type 0 where
  pub few : length rows ≤ MAX_RINGS
  pub long : length slots ≡ MEMBERS
  pub placed : (n : ℕ) → IfSome (places_at slots n) (λ places. length places ≡ length rows)
  pub numbered : map (λ r. r.ring) rows ≡ range_with_len 0 (length rows)
  pub in_order : All (IsRow slots) rows

-- The numbers of the members whose places are in the slots.
abbrev pub numbers_in : List (Option (List (List ℕ))) → List ℕ
numbers_in slots = map (λ x. x.number) (members_from 0 slots)
