-- Slots by number, some of them empty.
use Rattle.std.specs.Prelude.{ℕ, ◌+◌, List, [], ◌∷◌, Option, Some, None}
use Rattle.std.specs.Ordering.{nat_cmp}
use Rattle.std.specs.FinMap.{FinMap, from_entries}

-- The numbers and values of the slots that aren't empty, where the first has the number a.
abbrev pub taken_from : {X : Type 0} → ℕ → List (Option X) → List (ℕ × X)
taken_from a [] = []
taken_from a (None ∷ slots) = taken_from (a + 1) slots
taken_from a (Some x ∷ slots) = (a, x) ∷ taken_from (a + 1) slots

-- The map that slots by number stand for.
abbrev pub map_of : {X : Type 0} → List (Option X) → FinMap nat_cmp X
map_of slots = from_entries (taken_from 0 slots)
