-- Queue: numbers in the order in which they came, by links from each to the one before it and the one behind it. One
-- number more stands for the end: it is linked behind the last, and before the first.
use Rattle.std.specs.Prelude.{◌≡◌, ℕ, zero, suc, ◌+◌, ◌<◌, Bool, false, not, ◌==◌, if◌then◌else◌, List, [], ◌∷◌, Option, Some, None, length, filter, slice_index_or}
use Rattle.std.specs.List.{AllByRecursion, list_any}
use Rattle.removal_timer.specs.declared.queue.Link.{Link}
use Rattle.removal_timer.specs.declared.queue.TheConstants.{END}

-- The first of the numbers, or none where there is none.
abbrev pub first_number : List ℕ → Option ℕ
first_number [] = None
first_number (n ∷ order) = Some n

abbrev pub is_queued : List ℕ → ℕ → Bool
is_queued order n = list_any (λ m. m == n) order

-- The numbers but this one, in their order.
abbrev pub without : ℕ → List ℕ → List ℕ
without n order = filter (λ m. not (m == n)) order

abbrev pub next_at : List Link → ℕ → ℕ
next_at links n = (slice_index_or links n (record { previous = 0; next = 0 })).next

abbrev pub previous_at : List Link → ℕ → ℕ
previous_at links n = (slice_index_or links n (record { previous = 0; next = 0 })).previous

-- The second is linked behind the first.
abbrev pub AreJoined : List Link → ℕ → ℕ → Type 0
AreJoined links m n = (next_at links m ≡ n) × (previous_at links n ≡ m)

-- Behind this number come those of the list, and then the end.
abbrev pub IsFollowed : List Link → ℕ → List ℕ → Type 0
IsFollowed links m [] = AreJoined links m END
IsFollowed links m (n ∷ order) = AreJoined links m n × IsFollowed links n order

-- No number comes twice.
abbrev pub AreApart : List ℕ → Type 0
AreApart [] = Unit {0}
AreApart (n ∷ order) = AllByRecursion (λ m. (m == n) ≡ false) order × AreApart order

-- The numbers that come behind this one, up to the end, as far as so many.
abbrev pub numbers_behind : ℕ → List Link → ℕ → List ℕ
numbers_behind zero links m = []
numbers_behind (suc most) links m = if next_at links m == END then [] else next_at links m ∷ numbers_behind most links (next_at links m)

-- The numbers, in the order in which they came.
unfoldable pub order_of : List Link → List ℕ
order_of links = numbers_behind (length links) links END

-- The links are those of the numbers in this order, each below the end.
pub record IsLinked (links : List Link) (order : List ℕ) : Type 0 where
  pub long : length links ≡ END + 1
  pub linked : IsFollowed links END order
  pub below : AllByRecursion (λ n. n < END) order
  pub apart : AreApart order
