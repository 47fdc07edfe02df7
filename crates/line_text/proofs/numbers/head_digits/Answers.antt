use Rattle.std.proofs.Common.{◌-◌, ◌<◌, length, get_or, rules, arith}
use Rattle.line_text.proofs.HeadLemmas.{few_digits, more_digits, next_digits, read_digits-more, single_digit}
use Rattle.line_text.proofs.numbers.head_digits.Goals as goal

pub overflow_mul-number : goal.overflow_mul-number
overflow_mul-number c =
    let below = few_digits c.loop-at.at c.loop-at.number (omega arith) c.loop-at.invariant.below in
    omega (arith, below)

pub overflow_add-number : goal.overflow_add-number
overflow_add-number c =
    let below = few_digits c.loop-at.at c.loop-at.number (omega arith) c.loop-at.invariant.below in
    omega (arith, below)

pub loop-at-preserved : goal.loop-at-preserved
loop-at-preserved c =
    let text = c.args.text.now in
    let inside : c.loop-at.at < length text = omega (arith, c.loop-at-test.true) in
    let value = read_digits-more text c.loop-at.at c.loop-at.number inside c.loop-at.invariant.value in
    let below = next_digits c.loop-at.at c.loop-at.number (get_or text c.loop-at.at 0 - 48) c.loop-at.invariant.below (single_digit (get_or text c.loop-at.at 0) (search rules)) in
    record {
      digits = more_digits text c.loop-at.at inside c.loop-at.invariant.digits (search rules);
      value = search (rules, value);
      below = search (rules, below);
    }
