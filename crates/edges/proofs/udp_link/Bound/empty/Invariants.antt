use Rattle.std.proofs.Common.{◌≡◌, ◌-◌, length}
use Rattle.edges.specs.Looks.{Reaches, batch}
use Rattle.edges.proofs.LookLemmas.{RunsOn}
use Rattle.edges.proofs.udp_link.Bound.empty.Given as goal

abbrev pub invariant-loop-look : goal.invariant-loop-look
invariant-loop-look g l = record {
  reaches : Reaches l.initial.self.queues l.self.queues;
  run : RunsOn (length l.initial.self.datagram.items) (batch - l._look) (g.S.Socket.coming l.initial.self.socket) (g.S.Socket.coming l.self.socket) l.initial.self.queues l.self.queues;
  room : length l.self.datagram.items ≡ length l.initial.self.datagram.items;
}
