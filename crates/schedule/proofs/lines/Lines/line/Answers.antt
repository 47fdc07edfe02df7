use Rattle.std.proofs.Common.{sym, subst}
use Rattle.line_text.specs.Answers.{Progress}
use Rattle.schedule.specs.declared.text.Text.{Text}
use Rattle.schedule.specs.Forms.{IsLine}
use Rattle.schedule.proofs.lines.Lines.line.Goals as goal

pub returns-clause-taken : goal.returns-clause-taken
returns-clause-taken c l h =
    let P : Progress Text → Type 0 = λ p. IsLine p c.args.bytes.now l in
    c.line.ensures.taken l (subst P (sym c.self.view_is) h)
