use Rattle.std.proofs.Common.{◌≡◌}
use Rattle.bench.proofs.lms.sign_and_verify.Given as goal

abbrev pub invariant-leaves : goal.invariant-leaves
invariant-leaves g l = l.leaves.key ≡ l.tree
