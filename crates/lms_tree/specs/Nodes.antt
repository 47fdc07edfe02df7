-- The nodes of a tree in a list, node r at place r.
use Rattle.std.specs.Prelude.{◌≡◌, ℕ, ◌*◌, ◌<◌, ◌≤◌, List, [], length, slice_index_or}
use Rattle.lms_tree.specs.declared.secret.Secret.{Secret}
use Rattle.lms_tree.specs.Kinds.{leaf_count}
use Rattle.lms_tree.specs.Lms.{node}

-- the list has room for all nodes, and holds those from one number on
pub record HoldsFrom (secret : Secret) (nodes : List (List ℕ)) (from : ℕ) : Type 0 where
  pub long : length nodes ≡ 2 * leaf_count secret.tree
  pub each : (r : ℕ) → from ≤ r → r < 2 * leaf_count secret.tree → slice_index_or nodes r [] ≡ node secret r
