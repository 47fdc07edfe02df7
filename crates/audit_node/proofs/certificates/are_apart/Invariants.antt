use Rattle.std.proofs.Common.{length}
use Rattle.audit_node.specs.Rolls.{AreApart, recs_of}
use Rattle.audit_node.proofs.certificates.are_apart.Given as goal

abbrev pub invariant-loop-rest : goal.invariant-loop-rest
invariant-loop-rest l = record {
  onward : AreApart (recs_of l.rest) → AreApart (recs_of l.certificates);
  back : AreApart (recs_of l.certificates) → AreApart (recs_of l.rest);
}

abbrev pub decreases-loop-rest : goal.decreases-loop-rest
decreases-loop-rest l = length l.rest
