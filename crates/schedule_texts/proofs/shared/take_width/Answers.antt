use Rattle.std.proofs.Common.{rules}
use Rattle.line_text.specs.Frame.{first_word}
use Rattle.schedule_texts.proofs.FieldLemmas.{no_width}
use Rattle.schedule_texts.proofs.shared.take_width.Goals as goal

pub returns-in_err-number-clause-refused : goal.returns-in_err-number-clause-refused
returns-in_err-number-clause-refused c =
    let x = no_width (first_word c.args.words.now) c.in_err-number.field-0.0 c.in_err-number.ensures.refused in
    search (rules, x)
