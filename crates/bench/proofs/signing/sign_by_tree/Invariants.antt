use Rattle.std.proofs.Common.{◌≡◌}
use Rattle.bench.proofs.signing.sign_by_tree.Given as goal

abbrev pub invariant-leaves : goal.invariant-leaves
invariant-leaves l = l.leaves.key ≡ l.tree
