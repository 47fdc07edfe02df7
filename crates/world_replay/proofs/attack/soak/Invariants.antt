use Rattle.std.specs.Prelude.{length}
use Rattle.soak_lines.specs.Workload.{workload}
use Rattle.world_replay.proofs.SoakWalkLemmas.{Goes}
use Rattle.world_replay.proofs.attack.soak.Given as goal

-- the lines up to here were taken
abbrev pub invariant-lines : goal.invariant-lines
invariant-lines l = record {
  goes : Goes (workload l.fn.seed l.fn.nodes l.fn.rounds) l.number l.left l.stage;
}

abbrev pub decreases-lines : goal.decreases-lines
decreases-lines l = length l.left
