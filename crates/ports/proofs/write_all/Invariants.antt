use Rattle.std.proofs.Common.{length, ◌-◌, ◌≤◌, ◌≡◌, take, true}
use Rattle.std.specs.Io.KnownBytes.{Appends}
use Rattle.ports.proofs.write_all.Given as goal

abbrev pub invariant-loop-written : goal.invariant-loop-written
invariant-loop-written g l = record {
  within : l.written ≤ length l.bytes;
  open_ : (g.O.Sink.state l.out).is_open ≡ true;
  quiet : (g.O.Sink.state l.out).faults ≡ (g.O.Sink.state l.initial.out).faults;
  gained : Appends (g.O.Sink.state l.initial.out).taken (g.O.Sink.state l.out).taken (take l.written l.bytes);
}

abbrev pub decreases-loop-written : goal.decreases-loop-written
decreases-loop-written g l = length l.bytes - l.written
