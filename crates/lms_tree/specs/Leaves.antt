-- What is left of a key's leaves, and one leaf of it.
use Rattle.std.specs.Prelude.{ℕ}
use Rattle.lms_tree.specs.declared.secret.Secret.{Secret}
use Rattle.lms_tree.specs.Kinds.{leaf_count}

-- how many indexes a key has: one for each leaf of its tree
abbrev pub index_count : Secret → ℕ
index_count key = leaf_count key.tree

-- the leaves of a key from one number on
pub record LeavesOf : Type 0 where
  pub key : Secret
  pub next : ℕ

-- one leaf of a key
pub record LeafOf : Type 0 where
  pub key : Secret
  pub index : ℕ
