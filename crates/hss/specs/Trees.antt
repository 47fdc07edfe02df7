-- The bottom tree that a pair has at hand.
use Rattle.std.specs.Prelude.{◌≡◌, ℕ, ◌+◌, ◌*◌, ◌≤◌, Option, Some, None}
use Rattle.lms_tree.specs.Kinds.{leaf_count}
use Rattle.hss.specs.declared.bottom.Bottom.{Bottom}
use Rattle.hss.specs.declared.secret.PairSecret.{PairSecret}
use Rattle.hss.specs.Pairs.{bottom_secret, front_of}

-- it is the pair's bottom tree of this number, with what stands in front of its signatures
pub record IsTree (pair : PairSecret) (b : Bottom) : Type 0 where
  pub tree : b.tree ≡ bottom_secret pair b.number
  pub leaves : b.leaves.key ≡ bottom_secret pair b.number
  pub front : b.front.items ≡ front_of pair b.number

-- it is the tree of this number, and no leaf of it was taken
pub record IsMade (pair : PairSecret) (number : ℕ) (b : Bottom) : Type 0 where
  pub number_is : b.number ≡ number
  pub tree : IsTree pair b
  pub whole : b.leaves.next ≡ 0

-- it is a tree of the pair, and no leaf from the pair's next index on was taken
pub record IsAtHand (pair : PairSecret) (next : ℕ) (b : Bottom) : Type 0 where
  pub tree : IsTree pair b
  pub before : b.number * leaf_count pair.bottom + b.leaves.next ≤ next

-- the top leaves up to that of the tree at hand were taken, and no more; none where none is
abbrev pub IsHeld : PairSecret → ℕ → ℕ → Option Bottom → Type 0
IsHeld pair next risen None = risen ≡ 0
IsHeld pair next risen (Some b) = (risen ≡ b.number + 1) × IsAtHand pair next b
