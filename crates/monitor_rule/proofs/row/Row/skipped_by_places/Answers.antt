use Rattle.std.proofs.Common.{◌-◌, ◌/◌, true, false, length, refl, ap, sym, ◌∙◌, arith}
use Rattle.ff_ids.specs.Views.{key_at}
use Rattle.monitor_rule.specs.Sorted.{RingOrder}
use Rattle.monitor_rule.proofs.OrderLemmas.{IsBetween-halved}
use Rattle.monitor_rule.proofs.row.Row.skipped_by_places.Goals as goal

pub overflow_add-low : goal.overflow_add-low
overflow_add-low g c = omega (arith, c.requires.between.within, ap (λ (r : RingOrder). length r.order) c.self.view_is, c.self.inside.order.ok.0)

pub returns-then-is_behind-clause-between : goal.returns-then-is_behind-clause-between
returns-then-is_behind-clause-between g c =
    let row = c.args.self.now in
    IsBetween-halved c.args.slots.now row (key_at row.ring c.args.places.now c.args.member) c.args.low c.args.left (c.args.left - c.args.left / 2) true c.requires.in_order c.requires.between c.requires.some (sym c.is_behind.ensures.value ∙ c.if-is_behind.true) refl

pub returns-else-is_behind-clause-between : goal.returns-else-is_behind-clause-between
returns-else-is_behind-clause-between g c =
    let row = c.args.self.now in
    IsBetween-halved c.args.slots.now row (key_at row.ring c.args.places.now c.args.member) c.args.low c.args.left 0 false c.requires.in_order c.requires.between c.requires.some (sym c.is_behind.ensures.value ∙ c.if-is_behind.false) refl

pub returns-then-is_behind-clause-fits : goal.returns-then-is_behind-clause-fits
returns-then-is_behind-clause-fits g c =
    let between = returns-then-is_behind-clause-between g c in
    omega (arith, between.ordered, between.within, ap (λ (r : RingOrder). length r.order) c.self.view_is, c.self.inside.order.ok.0)

pub returns-else-is_behind-clause-fits : goal.returns-else-is_behind-clause-fits
returns-else-is_behind-clause-fits g c = omega arith
