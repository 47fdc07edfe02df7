use Rattle.std.proofs.Common.{◌≡◌, ◌-◌, ◌*◌, ◌/◌, ◌^◌, ◌<◌, ap, ◌∙◌, arith}
use Rattle.monitor_rule.proofs.StepLemmas.{power_more, left_more, most_more, least_more}
use Rattle.monitor_rule.proofs.row.Row.halve_by_hints.Goals as goal

pub loop-left-preserved : goal.loop-left-preserved
loop-left-preserved g c =
    let n = c.args.count in
    let p = 2 ^ (c.loop-left.steps - c.args.steps.now) in
    let s = c.loop-left.left in
    let s' = s / 2 in
    let more : 2 ^ (c.skipped_by_hints-low.new.steps - c.args.steps.now) ≡ 2 * p = ap (λ x. 2 ^ (x - c.args.steps.now)) c.skipped_by_hints-low.ensures.step ∙ power_more c.args.steps.now c.loop-left.steps c.loop-left.invariant.counted in
    let some : 0 < s = omega (arith, c.loop-left-test.true) in
    record {
      between = c.skipped_by_hints-low.ensures.between;
      counted = omega (arith, c.loop-left.invariant.counted, c.skipped_by_hints-low.ensures.step);
      taken = rw more (left_more p s s' n c.loop-left.invariant.taken (omega arith));
      most = rw more (most_more p s n c.loop-left.invariant.taken some);
      least = rw more (least_more p s s' n c.loop-left.invariant.least (omega arith));
    }
