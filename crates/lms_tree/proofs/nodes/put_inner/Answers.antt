use Rattle.std.proofs.Common.{arith}
use Rattle.lms_tree.proofs.NodeLists.{inner-more}
use Rattle.lms_tree.proofs.nodes.put_inner.Goals as goal

pub loop-r-preserved : goal.loop-r-preserved
loop-r-preserved c =
    (omega arith, omega arith
    , inner-more c.args.secret.now _ c.loop-r.r _ _ c.loop-r.invariant.2 (omega arith) (omega arith) (omega arith) c.inner_hash.ensures)
