-- Numbers in a list that rises.
use Rattle.std.specs.Prelude.{ℕ, Bool, ◌==◌, nat_le, if◌then◌else◌, List, [], ◌∷◌}
use Rattle.std.specs.List.{list_any}

abbrev pub is_listed : List ℕ → ℕ → Bool
is_listed numbers m = list_any (λ n. n == m) numbers

-- The list with the number put in, in order.
abbrev pub with_number : ℕ → List ℕ → List ℕ
with_number m [] = m ∷ []
with_number m (n ∷ numbers) = if nat_le m n then m ∷ n ∷ numbers else n ∷ with_number m numbers

-- The list with the number taken out.
abbrev pub without_number : ℕ → List ℕ → List ℕ
without_number m [] = []
without_number m (n ∷ numbers) = if n == m then numbers else n ∷ without_number m numbers
