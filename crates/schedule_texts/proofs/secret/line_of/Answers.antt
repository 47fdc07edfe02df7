use Rattle.std.proofs.Common.{rules}
use Rattle.schedule_texts.specs.declared.line.SecretLine.TheVariants as lines
use Rattle.schedule_texts.specs.declared.secret.LineWord.TheVariants as words
use Rattle.schedule_texts.specs.Shared.{kinds_fault_in, kinds_fields, kinds_in}
use Rattle.schedule_texts.specs.SecretRows.{line_of}
use Rattle.schedule_texts.proofs.TableLemmas.{value_bad, value_good}
use Rattle.schedule_texts.proofs.secret.line_of.Goals as goal

pub returns-in_err-read_kinds-in-Kinds : goal.returns-in_err-read_kinds-in-Kinds
returns-in_err-read_kinds-in-Kinds c =
    let x = value_bad (kinds_fields c.args.args) kinds_fault_in kinds_in (line_of words.Kinds) c.args.args c.in_err-read_kinds-in-Kinds.field-0.0 c.in_err-read_kinds-in-Kinds.ensures in
    rw c.in-Kinds.is (search (rules, x))

pub returns-in_ok-read_kinds-in-Kinds : goal.returns-in_ok-read_kinds-in-Kinds
returns-in_ok-read_kinds-in-Kinds c =
    rw c.in-Kinds.is (value_good (kinds_fields c.args.args) kinds_fault_in kinds_in lines.Kinds c.args.args c.in_ok-read_kinds-in-Kinds.field-0 c.in_ok-read_kinds-in-Kinds.ensures)
