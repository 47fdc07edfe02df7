use Rattle.std.proofs.Common.{◌≡◌, Ok, true, false}
use Rattle.node_rules.specs.Nodes.{Setting}
use Rattle.turn_rules.specs.Turns.{ticks_of}
use Rattle.node_loop.specs.Courses.{ServeState, served}
use Rattle.node_loop.specs.Lines.{GoesOn}
use Rattle.node_loop.specs.Writing.{Before, Stands, standing}
use Rattle.node_loop.proofs.calls.tick_times.Given as goal

abbrev pub invariant-loop-done : goal.invariant-loop-done
invariant-loop-done g l = record {
  writable : (g.O.Sink.state l.out).is_open ≡ true;
  going : l.node.ended ≡ false;
  calm : (g.D.Disk.state l.disk).faults ≡ (g.D.Disk.state l.initial.disk).faults;
  faults : (g.O.Sink.state l.out).faults ≡ (g.O.Sink.state l.initial.out).faults;
  closed : l.node.signer.closed ≡ l.initial.node.signer.closed;
  goes : GoesOn l.initial.node.signer l.node.signer (g.D.Disk.state l.initial.disk).moments (g.D.Disk.state l.disk).moments (g.O.Sink.state l.initial.out).taken (g.O.Sink.state l.out).taken (g.L.Link.state l.initial.link).faults (g.L.Link.state l.link).faults (Ok tt);
  ticked : (s : Setting) (before : Before) (r : ServeState) → Stands s before (standing l.initial.node (g.L.Link.state l.initial.link).contents (g.O.Sink.state l.initial.out).taken (g.D.Disk.state l.initial.disk).moments l.initial.sent) r
      → Stands s before (standing l.node (g.L.Link.state l.link).contents (g.O.Sink.state l.out).taken (g.D.Disk.state l.disk).moments l.sent) (served s (ticks_of l._done) r);
}
