-- The members that have joined the rings, in order of number.
use Rattle.std.specs.Prelude.{ℕ, Bool, ◌==◌, nat_le, if◌then◌else◌, List, [], ◌∷◌, map}
use Rattle.std.specs.List.{list_any}
use Rattle.ff_ids.specs.Rings.{Key}
use Rattle.ff_ids.specs.Views.{Member, key_at}

-- How many rings there are, and who has joined, in order of number.
pub record Joined : Type 0 where
  pub rings : ℕ
  pub members : List Member

abbrev pub is_joined : List Member → ℕ → Bool
is_joined members m = list_any (λ x. x.number == m) members

-- The list with the member put in, in order of number.
abbrev pub with_member : Member → List Member → List Member
with_member m [] = m ∷ []
with_member m (x ∷ members) = if nat_le m.number x.number then m ∷ x ∷ members else x ∷ with_member m members

-- The list with the member of this number taken out.
abbrev pub without_member : ℕ → List Member → List Member
without_member m [] = []
without_member m (x ∷ members) = if x.number == m then members else x ∷ without_member m members

-- The keys of the members on the ring.
abbrev pub keys_on : ℕ → List Member → List Key
keys_on ring members = map (λ x. key_at ring x.places x.number) members
