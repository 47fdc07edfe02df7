use Rattle.std.proofs.Common.{◌∙◌, Err}
use Rattle.play.specs.Plays.{io}
use Rattle.whole_text.proofs.WholeLemmas.{unfinished, whole, writable}
use Rattle.whole_text.proofs.reading.read_whole.Goals as goal

pub returns-in-Ok-clause-whole : goal.returns-in-Ok-clause-whole
returns-in-Ok-clause-whole g c =
    rw c.into_lines.ensures
    (whole (record { is_ended = g.F.Form.is_ended; row = g.F.Form.row_for; after = g.F.Form.after }) c.args.form c.open-gatherer.result.reader c.play.new.script.reader c.open-gatherer.result.lines.items c.play.new.script.lines.items _ _ _
    c.open-gatherer.ensures.reader c.open-gatherer.ensures.lines c.in-Ok.ensures.came c.in-Ok.ensures.ended c.in-Ok.ensures.runs)

pub returns-in-Err-clause-sink : goal.returns-in-Err-clause-sink
returns-in-Err-clause-sink g c =
    c.in-Err.ensures.sink ∙ writable (record { is_ended = g.F.Form.is_ended; row = g.F.Form.row_for; after = g.F.Form.after }) c.args.form c.open-gatherer.result.reader
    (io (g.S.Source.state c.args.input.now) (g.O.Sink.state c.args.out.now))
    (io (g.S.Source.state c.play.new.input) (g.O.Sink.state c.play.new.out))
    (Err c.in-Err.stop) c.open-gatherer.ensures.reader c.in-Err.ensures.runs

pub returns-in-Err-clause-unfinished : goal.returns-in-Err-clause-unfinished
returns-in-Err-clause-unfinished g c =
    unfinished (record { is_ended = g.F.Form.is_ended; row = g.F.Form.row_for; after = g.F.Form.after }) g.F.Form.spells g.met.F.Form.spelled c.args.form c.open-gatherer.result.reader _ _ c.in-Err.stop c.open-gatherer.ensures.reader c.in-Err.ensures.runs
