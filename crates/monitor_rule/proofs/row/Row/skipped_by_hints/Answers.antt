use Rattle.std.proofs.Common.{◌+◌, ◌-◌, ◌*◌, ◌/◌, length, refl, ap, ◌∙◌, arith}
use Rattle.ff_ids.specs.Rings.{is_below}
use Rattle.ff_ids.specs.Views.{key_at}
use Rattle.monitor_rule.specs.Sorted.{RingOrder, key_of_index}
use Rattle.monitor_rule.proofs.OrderLemmas.{IsBetween-halved, times_one}
use Rattle.monitor_rule.proofs.row.Row.skipped_by_hints.Goals as goal

pub overflow_add-low : goal.overflow_add-low
overflow_add-low g c = omega (arith, c.requires.between.within, ap (λ (r : RingOrder). length r.order) c.self.view_is, c.self.inside.order.ok.0)

pub returns-clause-between : goal.returns-clause-between
returns-clause-between g c =
    let row = c.args.self.now in
    let q = key_at row.ring c.args.places.now c.args.member in
    let half = c.args.left - c.args.left / 2 in
    let below = is_below (key_of_index c.args.slots.now row (c.args.low + half - 1)) q in
    IsBetween-halved c.args.slots.now row q c.args.low c.args.left _ below c.requires.in_order c.requires.between c.requires.some refl (ap (λ n. half * n) c.is_behind_by_hint.ensures.value ∙ times_one half below)

pub returns-clause-fits : goal.returns-clause-fits
returns-clause-fits g c =
    let between = returns-clause-between g c in
    omega (arith, between.ordered, between.within, ap (λ (r : RingOrder). length r.order) c.self.view_is, c.self.inside.order.ok.0)
