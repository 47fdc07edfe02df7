use Rattle.std.proofs.Common.{length, refl}
use Rattle.edges.proofs.HandLemmas.{empties-next, empties-none, hands-next}
use Rattle.edges.proofs.udp_link.Bound.next_emptied.Goals as goal

pub returns-in_err-empty-clause-empties : goal.returns-in_err-empty-clause-empties
returns-in_err-empty-clause-empties g c =
    let coming = g.S.Socket.coming in
    empties-none (length c.args.self.now.datagram.items) c.args.now (coming c.args.self.now.socket) (coming c.empty.new.self.socket) c.args.self.now.queues c.empty.new.self.queues c.args.buf.now c.args.buf.now
    _ c.from_residual.result c.from_residual.ensures.0 c.in_err-empty.ensures.empties refl

pub returns-clause-hands : goal.returns-clause-hands
returns-clause-hands g c =
    hands-next c.args.self.now.queues c.empty.new.self.queues c.next.new.self c.args.now c.args.buf.now c.next.new.buf c.next.result c.empty.ensures.reaches c.next.ensures.handed c.next.ensures.filled c.next.ensures.after

pub returns-clause-empties : goal.returns-clause-empties
returns-clause-empties g c =
    let coming = g.S.Socket.coming in
    empties-next (length c.args.self.now.datagram.items) c.args.now (coming c.args.self.now.socket) (coming c.empty.new.self.socket) c.args.self.now.queues c.empty.new.self.queues c.next.new.self c.args.buf.now c.next.new.buf
    c.next.result c.in_ok-empty.ensures.empties c.next.ensures.handed c.next.ensures.filled c.next.ensures.after
