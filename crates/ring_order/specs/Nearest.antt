-- The keys of listed members on a ring, and the nearest of them to a member on either side.
use Rattle.std.specs.Prelude.{◌≡◌, ℕ, ◌*◌, ◌-◌, Bool, ◌==◌, if◌then◌else◌, List, Option, Some, None, map, length}
use Rattle.ff_ids.specs.Rings.{Key, is_between, others, nearest_before, nearest_after, IsNearestBefore, IsNearestAfter}
use Rattle.ff_ids.specs.Views.{key_at}
use Rattle.ring_order.specs.declared.Side.{Side}
use Rattle.ring_order.specs.declared.Side.TheVariants.{Before, After}

-- The key on the ring of a member given with its places.
abbrev pub key_of_pair : ℕ → List (List ℕ) × ℕ → Key
key_of_pair ring p = key_at ring p.0 p.1

-- The keys on the ring of members given with their places.
abbrev pub keys_of : ℕ → List (List (List ℕ) × ℕ) → List Key
keys_of ring live = map (key_of_pair ring) live

-- The number is that of the nearest of the keys before m.
abbrev pub IsNumberBefore : List Key → Key → ℕ → Type 0
IsNumberBefore keys m n = (v : Key) × (v.number ≡ n) × IsNearestBefore keys m v

-- The number is that of the nearest of the keys after m.
abbrev pub IsNumberAfter : List Key → Key → ℕ → Type 0
IsNumberAfter keys m n = (v : Key) × (v.number ≡ n) × IsNearestAfter keys m v

-- The second key lies between the first and m, on m's given side.
abbrev pub nearer : Side → Key → Key → Key → Bool
nearer Before m v w = is_between v w m
nearer After m v w = is_between m w v

abbrev pub nearest : Side → List Key → Key → Option ℕ
nearest Before keys m = nearest_before keys m
nearest After keys m = nearest_after keys m

-- The nearest of a member's neighbours seen so far, if any, and one more.
abbrev pub nearest_with : (Key → Key → Bool) → Option Key → Key → Option Key
nearest_with near None w = Some w
nearest_with near (Some v) w = if near v w then Some w else Some v

-- The member itself is no neighbour of its own.
abbrev pub nearest_so_far : (Key → Key → Bool) → ℕ → Option Key → Key → Option Key
nearest_so_far near m best w = if w.number == m then best else nearest_with near best w

-- How many comparisons a pass makes at one more key: none at the member's own and at the first, then three.
abbrev pub comparisons_of_next : ℕ → Option Key → Key → ℕ
comparisons_of_next m None w = 0
comparisons_of_next m (Some v) w = if w.number == m then 0 else 3

-- How many comparisons a pass over the keys makes.
abbrev pub comparisons_of_all : ℕ → List Key → ℕ
comparisons_of_all m keys = 3 * (length (others m keys) - 1)
