-- Places from hashes.
use Rattle.std.specs.Prelude.{ℕ, List, [], ◌∷◌, ◌++◌, map, codes}
use Rattle.std.specs.Int.{w16, to_be_bytes}
use Rattle.std.specs.List.{range_with_len}
use Rattle.sha2.specs.Sha256.{sha256}
use Rattle.ff_ids.specs.Masks.{ring_count}

-- a member's place on a ring of the group of this tag: the hash of a label, the tag, the ring in one byte and
-- the member in two, the high one first
unfoldable pub hashed_place : List ℕ → ℕ → ℕ → List ℕ
hashed_place tag ring member = sha256 (codes "FFRING" ++ tag ++ ring ∷ [] ++ to_be_bytes w16 member)

-- a member's places on so many rings, in order
abbrev pub hashed_places_below : List ℕ → ℕ → ℕ → List (List ℕ)
hashed_places_below tag rings member = map (λ ring. hashed_place tag ring member) (range_with_len 0 rings)

-- a member's places on the rings of a group of tolerance t
abbrev pub hashed_places : List ℕ → ℕ → ℕ → List (List ℕ)
hashed_places tag t member = hashed_places_below tag (ring_count t) member
