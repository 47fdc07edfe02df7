use Rattle.std.proofs.Common.{None, refl, ◌∙◌, length-set, arith}
use Rattle.monitor_rule.proofs.NumberLemmas.{left_first, left_next, left_none}
use Rattle.monitor_rule.proofs.slots.Slots.forget.Goals as goal

pub loop-number-init : goal.loop-number-init
loop-number-init c = record { long = refl; left = left_first c.args.self.now c.args.numbers.now c.requires.all }

pub loop-number-preserved : goal.loop-number-preserved
loop-number-preserved c =
    rw c.empty.ensures.value (record {
      long = length-set c.loop-number.self c.number-item.result None ∙ c.loop-number.invariant.long;
      left = left_next c.loop-number.self c.args.numbers.now c.loop-number.number-index c.number-item.result c.loop-number.invariant.left c.loop-number-test.true c.number-item.is (omega (arith, c.empty.ensures.range, c.requires.long, c.loop-number.invariant.long));
    })

pub returns : goal.returns
returns c =
    record {
      long = c.loop-number.invariant.long;
      none = left_none c.loop-number.self c.args.numbers.now c.loop-number.number-index c.loop-number.invariant.left (omega (arith, c.loop-number-test.false));
    }
