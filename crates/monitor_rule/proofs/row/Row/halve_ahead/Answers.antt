use Rattle.std.proofs.Common.{◌≡◌, ◌+◌, ◌-◌, ◌*◌, ◌/◌, ◌^◌, length, ap, ◌∙◌, arith}
use Rattle.ff_ids.specs.Views.{key_at}
use Rattle.monitor_rule.specs.Sorted.{RingOrder}
use Rattle.monitor_rule.proofs.OrderLemmas.{IsBetween-wider, middle_of_rest}
use Rattle.monitor_rule.proofs.StepLemmas.{power_more, left_more, most_more, least_more}
use Rattle.monitor_rule.proofs.row.Row.halve_ahead.Goals as goal

pub overflow_add-low : goal.overflow_add-low
overflow_add-low g c = omega (arith, c.loop-left.invariant.between.within, ap (λ (r : RingOrder). length r.order) c.self.view_is, c.self.inside.order.ok.0)

pub is_middle_behind-behind-requires-clause-middle : goal.is_middle_behind-behind-requires-clause-middle
is_middle_behind-behind-requires-clause-middle g c = c.loop-left.invariant.middle

pub overflow_add-low-in-loop-left : goal.overflow_add-low-in-loop-left
overflow_add-low-in-loop-left g c =
    let between = c.is_middle_behind-behind.ensures.between in
    omega (arith, between.ordered, between.within, ap (λ (r : RingOrder). length r.order) c.self.view_is, c.self.inside.order.ok.0)

pub loop-left-preserved : goal.loop-left-preserved
loop-left-preserved g c =
    let n = c.args.count in
    let p = 2 ^ (c.loop-left.steps - c.args.steps.now) in
    let s = c.loop-left.left in
    let s' = s / 2 in
    let more : 2 ^ (c.is_middle_behind-behind.new.steps - c.args.steps.now) ≡ 2 * p = ap (λ x. 2 ^ (x - c.args.steps.now)) c.is_middle_behind-behind.ensures.step ∙ power_more c.args.steps.now c.loop-left.steps c.loop-left.invariant.counted in
    record {
      between = c.is_middle_behind-behind.ensures.between;
      some = omega (arith, c.loop-left-test.true);
      middle = middle_of_rest c.args.self.now.order c.loop-left.low (s - s') (s' - s' / 2) c.is_middle_behind-behind.result _ c.middle-near.result c.middle-far.result c.is_middle_behind-behind.ensures.range c.middle-near.ensures c.middle-far.ensures c.one_of-other.ensures;
      counted = omega (arith, c.loop-left.invariant.counted, c.is_middle_behind-behind.ensures.step);
      taken = rw more (left_more p s s' n c.loop-left.invariant.taken (omega arith));
      least = rw more (least_more p s s' n c.loop-left.invariant.least (omega arith));
    }

pub is_middle_behind-requires-clause-some : goal.is_middle_behind-requires-clause-some
is_middle_behind-requires-clause-some g c = c.loop-left.invariant.some

pub is_middle_behind-requires-clause-middle : goal.is_middle_behind-requires-clause-middle
is_middle_behind-requires-clause-middle g c = c.loop-left.invariant.middle

pub overflow_add-result : goal.overflow_add-result
overflow_add-result g c =
    let one : c.loop-left.left ≡ 1 = omega (arith, c.loop-left.invariant.some, c.loop-left-test.false) in
    let here = ap (λ n. (n - n / 2) * c.is_middle_behind.result) one in
    let between = c.is_middle_behind.ensures.between in
    omega (arith, here, between.ordered, between.within, ap (λ (r : RingOrder). length r.order) c.self.view_is, c.self.inside.order.ok.0)

pub returns-clause-place : goal.returns-clause-place
returns-clause-place g c =
    let row = c.args.self.now in
    let q = key_at row.ring c.args.places.now c.args.member in
    let r = c.is_middle_behind.result in
    let low = c.loop-left.low in
    let s = c.loop-left.left in
    let one : s ≡ 1 = omega (arith, c.loop-left.invariant.some, c.loop-left-test.false) in
    let here = ap (λ n. (n - n / 2) * r) one in
    let between = c.is_middle_behind.ensures.between in
    IsBetween-wider c.args.slots.now row q (low + (s - s / 2) * r) (low + (s - s / 2) * r + s / 2) (low + r) (low + r) between (omega (arith, here)) (omega (arith, here, one)) (omega (arith, here, between.ordered, between.within))

pub returns-clause-most : goal.returns-clause-most
returns-clause-most g c =
    let p = 2 ^ (c.loop-left.steps - c.args.steps.now) in
    let more : 2 ^ (c.is_middle_behind.new.steps - c.args.steps.now) ≡ 2 * p = ap (λ x. 2 ^ (x - c.args.steps.now)) c.is_middle_behind.ensures.step ∙ power_more c.args.steps.now c.loop-left.steps c.loop-left.invariant.counted in
    rw more (most_more p c.loop-left.left c.args.count c.loop-left.invariant.taken c.loop-left.invariant.some)

pub returns-clause-least : goal.returns-clause-least
returns-clause-least g c =
    let p = 2 ^ (c.loop-left.steps - c.args.steps.now) in
    let more : 2 ^ (c.is_middle_behind.new.steps - c.args.steps.now) ≡ 2 * p = ap (λ x. 2 ^ (x - c.args.steps.now)) c.is_middle_behind.ensures.step ∙ power_more c.args.steps.now c.loop-left.steps c.loop-left.invariant.counted in
    let least = least_more p c.loop-left.left 0 c.args.count c.loop-left.invariant.least (omega (arith, c.loop-left-test.false)) in
    rw more (omega (arith, least))
