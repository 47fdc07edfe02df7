use Rattle.std.proofs.Common.{◌∙◌, length-set, arith}
use Rattle.std.proofs.lemmas.Bool.Decides.{nat_tests}
use Rattle.monitor_rule.proofs.SlotsLemmas.{hinted_more}
use Rattle.monitor_rule.proofs.slots.Hints.of.Goals as goal

pub loop-ring-preserved : goal.loop-ring-preserved
loop-ring-preserved c =
    let so_far = c.loop-ring.invariant in
    let within = c.loop-ring-test.true in
    record {
      long = length-set c.loop-ring.list c.loop-ring.ring c.hint-hint.result ∙ so_far.long;
      told = hinted_more c.loop-ring.ring c.loop-ring.list c.args.places.now c.hint-hint.result (omega (arith, within, c.rings-count.ensures.range, so_far.long)) (omega (arith, within, c.rings-count.ensures.value)) so_far.told c.hint-hint.ensures (grind (arith, nat_tests, c.is_telling.ensures, c.if-not-is_telling.false));
    }
