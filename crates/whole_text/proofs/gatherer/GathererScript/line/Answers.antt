use Rattle.std.proofs.Common.{refl}
use Rattle.whole_text.proofs.GatherLemmas.{kept-one, starved-some}
use Rattle.whole_text.proofs.gatherer.GathererScript.line.Goals as goal

pub returns-in-Err-OutOfMemory-clause-line : goal.returns-in-Err-OutOfMemory-clause-line
returns-in-Err-OutOfMemory-clause-line g c =
    starved-some (record { is_ended = g.F.Form.is_ended; row = g.F.Form.row_for; after = g.F.Form.after }) g.F.Form.takes_memory g.F.Form.spells g.met.F.Form.spelled c.args.self.now.reader c.args.bytes.now _ refl
    (rw c.in-Err-OutOfMemory.field-0-is at c.in-Err-OutOfMemory.ensures.answer)

pub returns-in-Ok-clause-line : goal.returns-in-Ok-clause-line
returns-in-Ok-clause-line g c =
    kept-one (record { is_ended = g.F.Form.is_ended; row = g.F.Form.row_for; after = g.F.Form.after }) g.F.Form.spells g.met.F.Form.spelled c.args.self.now.reader c.line.new.self c.args.bytes.now c.args._text.now.items c.in-Ok.line c.keep.result
    c.in-Ok.ensures.answer c.in-Ok.ensures.progress c.requires.empty c.keep.ensures.memory
