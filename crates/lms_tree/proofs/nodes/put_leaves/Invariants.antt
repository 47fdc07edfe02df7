use Rattle.lms_tree.proofs.NodeLists.{HoldsLeaves}
use Rattle.lms_tree.proofs.nodes.put_leaves.Given as goal

abbrev pub invariant-loop-q : goal.invariant-loop-q
invariant-loop-q l = HoldsLeaves l.secret l.nodes l.q
