use Rattle.std.proofs.Common.{◌≡◌, Ok, true, false, length}
use Rattle.node_rules.specs.Nodes.{Setting}
use Rattle.node_loop.specs.Turns.{Outlook, room}
use Rattle.node_loop.specs.Courses.{ServeState}
use Rattle.node_loop.specs.Serving.{Sees}
use Rattle.node_loop.specs.Lines.{GoesOn}
use Rattle.node_loop.specs.Writing.{Before, Stands, standing}
use Rattle.node_loop.proofs.TurnLemmas.{Turned, pace_in}
use Rattle.node_loop.proofs.serving.serve.Given as goal

abbrev pub invariant-loop-done : goal.invariant-loop-done
invariant-loop-done g l = record {
  writable : (g.O.Sink.state l.out).is_open ≡ true;
  going : l.node.ended ≡ false;
  calm : (g.D.Disk.state l.disk).faults ≡ (g.D.Disk.state l.initial.disk).faults;
  faults : (g.O.Sink.state l.out).faults ≡ (g.O.Sink.state l.initial.out).faults;
  pace : l.progress.pace ≡ pace_in l.initial.node l.millis;
  base : l.progress.base ≡ l.base;
  room : length l.buf.items ≡ room;
  closed : l.node.signer.closed ≡ l.initial.node.signer.closed;
  goes : GoesOn l.initial.node.signer l.node.signer (g.D.Disk.state l.initial.disk).moments (g.D.Disk.state l.disk).moments (g.O.Sink.state l.initial.out).taken (g.O.Sink.state l.out).taken (g.L.Link.state l.initial.link).faults (g.L.Link.state l.link).faults (Ok tt);
  turned : (s : Setting) (before : Before) (o : Outlook) (start : ServeState)
      → Stands s before (standing l.initial.node (g.L.Link.state l.initial.link).contents (g.O.Sink.state l.initial.out).taken (g.D.Disk.state l.initial.disk).moments 0) start
      → Sees o start (g.C.Clock.state l.initial.clock).reading (g.C.Clock.state l.initial.clock).coming 0
      → Turned s before (pace_in l.initial.node l.millis) l.base l.turns l.done o start (standing l.node (g.L.Link.state l.link).contents (g.O.Sink.state l.out).taken (g.D.Disk.state l.disk).moments l.progress.sent)
      (g.C.Clock.state l.clock).reading (g.C.Clock.state l.clock).coming l.progress.made;
}
