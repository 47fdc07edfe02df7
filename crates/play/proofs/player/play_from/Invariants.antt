use Rattle.std.proofs.Common.{◌≡◌, ◌≤◌, ◌+◌, true}
use Rattle.text_trace.specs.Long.{most_lines}
use Rattle.text_trace.specs.Trace.{Owing}
use Rattle.play.specs.PlaysBy.{AdvancedBy, ConsumedBy, io}
use Rattle.play.proofs.player.play_from.Given as goal

-- the lines up to here were taken, and their trace was written
abbrev pub invariant-lines : goal.invariant-lines
invariant-lines g l = record {
  source : (g.S.Source.state l.input).is_open ≡ true;
  sink : (g.O.Sink.state l.out).is_open ≡ true;
  owing : Owing g.row.P-Cause.Denot (g.P.Script.owes l.script);
  number : l.number + g.P.Script.room l.script ≤ most_lines + 1;
  came : ConsumedBy l.fn.long (λ lines. g.P.Script.reaches l.fn.script lines l.script) (g.P.Script.room l.fn.script) (g.P.Script.room l.script) (g.S.Source.state l.fn.input).left (g.S.Source.state l.input).left;
  went : AdvancedBy l.fn.long g.row.P-Cause.Denot (g.P.Script.owes l.fn.script) (g.P.Script.owes l.script) l.fn.first l.number (g.P.Script.room l.fn.script) (g.P.Script.room l.script)
      (io (g.S.Source.state l.fn.input) (g.O.Sink.state l.fn.out))
      (io (g.S.Source.state l.input) (g.O.Sink.state l.out));
}

abbrev pub decreases-lines : goal.decreases-lines
decreases-lines g l = g.P.Script.room l.script
