use Rattle.std.proofs.Common.{length, refl, ◌∙◌}
use Rattle.edges.proofs.LookLemmas.{broken-by, end-by, more-by, on-start, quiet-by, reaches-refl, reaches-trans}
use Rattle.edges.proofs.udp_link.Bound.empty.Goals as goal

pub loop-look-init : goal.loop-look-init
loop-look-init g c = record {
  reaches = reaches-refl c.args.self.now.queues;
  run = on-start (length c.args.self.now.datagram.items) (g.S.Socket.coming c.args.self.now.socket) c.args.self.now.queues;
  room = refl;
}

pub returns-in_err-take_in-clause-reaches : goal.returns-in_err-take_in-clause-reaches
returns-in_err-take_in-clause-reaches g c =
    reaches-trans c.args.self.now.queues c.loop-look.self.queues c.take_in.new.self.queues c.loop-look.invariant.reaches c.take_in.ensures.reaches

pub returns-in_err-take_in-clause-empties : goal.returns-in_err-take_in-clause-empties
returns-in_err-take_in-clause-empties g c =
    let coming = g.S.Socket.coming in
    broken-by (length c.args.self.now.datagram.items) (length c.loop-look.self.datagram.items) c.loop-look._look (coming c.args.self.now.socket) (coming c.loop-look.self.socket) (coming c.take_in.new.self.socket)
    c.args.self.now.queues c.loop-look.self.queues c.take_in.new.self.queues _ c.from_residual.result c.loop-look.invariant.room c.loop-look-test.true c.from_residual.ensures.0
    c.loop-look.invariant.run c.in_err-take_in.ensures.looks

pub loop-look-preserved : goal.loop-look-preserved
loop-look-preserved g c =
    let coming = g.S.Socket.coming in
    record {
      reaches = reaches-trans c.args.self.now.queues c.loop-look.self.queues c.take_in.new.self.queues c.loop-look.invariant.reaches c.take_in.ensures.reaches;
      run =
          more-by (length c.args.self.now.datagram.items) (length c.loop-look.self.datagram.items) c.loop-look._look (coming c.args.self.now.socket) (coming c.loop-look.self.socket) (coming c.take_in.new.self.socket)
          c.args.self.now.queues c.loop-look.self.queues c.take_in.new.self.queues _ c.loop-look.invariant.room c.loop-look-test.true c.if-not-branch.false
          c.loop-look.invariant.run c.in_ok-take_in.ensures.looks;
      room = c.take_in.ensures.room ∙ c.loop-look.invariant.room;
    }

pub returns-after-loop-look-clause-empties : goal.returns-after-loop-look-clause-empties
returns-after-loop-look-clause-empties g c =
    end-by (length c.args.self.now.datagram.items) c.loop-look._look (g.S.Socket.coming c.args.self.now.socket) (g.S.Socket.coming c.loop-look.self.socket) c.args.self.now.queues c.loop-look.self.queues
    c.loop-look-test.false c.loop-look.invariant.run

pub returns-then-not-branch-clause-reaches : goal.returns-then-not-branch-clause-reaches
returns-then-not-branch-clause-reaches g c =
    reaches-trans c.args.self.now.queues c.loop-look.self.queues c.take_in.new.self.queues c.loop-look.invariant.reaches c.take_in.ensures.reaches

pub returns-then-not-branch-clause-empties : goal.returns-then-not-branch-clause-empties
returns-then-not-branch-clause-empties g c =
    let coming = g.S.Socket.coming in
    quiet-by (length c.args.self.now.datagram.items) (length c.loop-look.self.datagram.items) c.loop-look._look (coming c.args.self.now.socket) (coming c.loop-look.self.socket) (coming c.take_in.new.self.socket)
    c.args.self.now.queues c.loop-look.self.queues c.take_in.new.self.queues _ c.loop-look.invariant.room c.loop-look-test.true c.if-not-branch.true
    c.loop-look.invariant.run c.in_ok-take_in.ensures.looks
