use Rattle.std.proofs.Common.{◌+◌, ap, arith}
use Rattle.lms_tree.proofs.NodeLists.{leaves-more, leaves-all}
use Rattle.lms_tree.proofs.nodes.put_leaves.Goals as goal

pub loop-q-preserved : goal.loop-q-preserved
loop-q-preserved c =
    leaves-more c.args.secret.now _ c.loop-q.q _ _ c.loop-q.invariant (omega arith)
    (ap (λ n. n + c.loop-q.q) c.leaf_count-count.ensures) c.leaf_of.ensures

pub returns : goal.returns
returns c = leaves-all c.args.secret.now _ c.loop-q.q c.loop-q.invariant (omega arith)
