use Rattle.std.proofs.Common.{rules, sym, ◌∙◌}
use Rattle.schedule_texts.specs.SecretRows.{fields_of, is_unfit, line_of}
use Rattle.schedule_texts.specs.MigrateRows.{stays}
use Rattle.schedule_texts.proofs.TableLemmas.{refused_here, whole_bad, whole_good}
use Rattle.schedule_texts.proofs.migrate.line_here.Goals as goal

pub returns-in_err-line : goal.returns-in_err-line
returns-in_err-line c =
    let x = refused_here (fields_of c.args.word c.args.args) is_unfit (stays c.args.form.now) (line_of c.args.word) c.args.args c.in_err-line.field-0.0 c.in_err-line.ensures in
    search (rules, x)

pub returns-then-stays : goal.returns-then-stays
returns-then-stays c =
    whole_bad (fields_of c.args.word c.args.args) is_unfit (stays c.args.form.now) (line_of c.args.word) c.args.args c.in_ok-line.line c.in_ok-line.ensures (sym c.stays.ensures ∙ c.if-stays.true)

pub returns-else-stays : goal.returns-else-stays
returns-else-stays c =
    whole_good (fields_of c.args.word c.args.args) is_unfit (stays c.args.form.now) (line_of c.args.word) c.args.args c.in_ok-line.line c.in_ok-line.ensures (sym c.stays.ensures ∙ c.if-stays.false)
