use Rattle.std.proofs.Common.{rules}
use Rattle.line_text.proofs.SpacedLemmas.{some-parts}
use Rattle.line_text.proofs.words.Words.take_number.Goals as goal

pub overflow_sub-self : goal.overflow_sub-self
overflow_sub-self c =
    let some = some-parts c.in_ok-text.text.now in
    search (rules, some)

pub overflow_sub-self-in-None : goal.overflow_sub-self-in-None
overflow_sub-self-in-None c =
    let some = some-parts c.in_ok-text.text.now in
    search (rules, some)
