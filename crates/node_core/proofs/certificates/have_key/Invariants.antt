use Rattle.std.proofs.Common.{length}
use Rattle.std.specs.List.{AllByRecursion}
use Rattle.node_core.specs.Rolls.{recs_of}
use Rattle.node_core.specs.Begins.{HasKey}
use Rattle.node_core.proofs.certificates.have_key.Given as goal

abbrev pub invariant-loop-rest : goal.invariant-loop-rest
invariant-loop-rest l = record {
  onward : AllByRecursion (HasKey l.member l.key) (recs_of l.rest) → AllByRecursion (HasKey l.member l.key) (recs_of l.certificates);
  back : AllByRecursion (HasKey l.member l.key) (recs_of l.certificates) → AllByRecursion (HasKey l.member l.key) (recs_of l.rest);
}

abbrev pub decreases-loop-rest : goal.decreases-loop-rest
decreases-loop-rest l = length l.rest
