use Rattle.std.proofs.Common.{◌≡◌, ◌+◌, ◌-◌, ◌*◌, drop, get_or, None, arith}
use Rattle.std.proofs.lemmas.Grind.{common_steps}
use Rattle.line_text.specs.Numbers.{number_of}
use Rattle.line_text.proofs.NumberLemmas.{read_digits-drop, read_digits-ge, number_of-large}
use Rattle.line_text.proofs.numbers.number_of.Goals as goal

pub returns-in_err-number : goal.returns-in_err-number
returns-in_err-number c =
    let word = c.args.word.now in
    let i = c.loop-digit.digit-index in
    let step = read_digits-drop c.loop-digit.number i word c.loop-digit-test.true in
    let more = read_digits-ge (10 * c.loop-digit.number + (get_or word i 0 - 48)) (drop (i + 1) word) in
    let exact = c.loop-digit.invariant.exact in
    let none : number_of word ≡ None = number_of-large word (omega (arith, c.in_err-number.ensures)) in
    grind (arith, common_steps)
