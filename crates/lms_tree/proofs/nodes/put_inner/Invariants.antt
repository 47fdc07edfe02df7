use Rattle.std.proofs.Common.{◌≤◌}
use Rattle.lms_tree.specs.Kinds.{leaf_count}
use Rattle.lms_tree.specs.Nodes.{HoldsFrom}
use Rattle.lms_tree.proofs.nodes.put_inner.Given as goal

abbrev pub invariant-loop-r : goal.invariant-loop-r
invariant-loop-r l = (1 ≤ l.r) × (l.r ≤ leaf_count l.secret.tree) × HoldsFrom l.secret l.nodes l.r

abbrev pub decreases-loop-r : goal.decreases-loop-r
decreases-loop-r l = l.r
