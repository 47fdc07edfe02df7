use Rattle.std.proofs.Common.{rules}
use Rattle.schedule_texts.proofs.StateLemmas.{of_one_level}
use Rattle.schedule_texts.proofs.head_read.state_line.Goals as goal

pub returns-in-Some-Lms : goal.returns-in-Some-Lms
returns-in-Some-Lms c =
    let x = of_one_level c.args.own.now c.in-Some-Lms.field-0-0 c.args.args in
    search (rules, x)
