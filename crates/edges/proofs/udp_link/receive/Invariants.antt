use Rattle.std.proofs.Common.{◌≡◌}
use Rattle.edges.specs.Looks.{Reaches}
use Rattle.edges.proofs.udp_link.receive.Given as goal

abbrev pub invariant-loop-look : goal.invariant-loop-look
invariant-loop-look g l = record {
  reaches : Reaches l.initial.bound.queues l.bound.queues;
  same : l.buf ≡ l.initial.buf;
}
