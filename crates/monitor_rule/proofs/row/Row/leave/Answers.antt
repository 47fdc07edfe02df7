use Rattle.std.proofs.Common.{length, ap, arith}
use Rattle.monitor_rule.specs.Sorted.{RingOrder}
use Rattle.monitor_rule.proofs.KeptLemmas.{left_row, left_within}
use Rattle.monitor_rule.proofs.row.Row.leave.Goals as goal

pub remove-requires : goal.remove-requires
remove-requires c =
    let within = left_within c.args._slots.now c.args.self.now c.args._places.now c.args.place c.args._member c.requires.in_order c.requires.found c.requires.there c.requires.number c.requires.long in
    omega (arith, within, ap (λ (r : RingOrder). length r.order) c.self.view_is, c.self.inside.order.ok.0)

pub returns-clause-in_order : goal.returns-clause-in_order
returns-clause-in_order c =
    left_row c.args._slots.now c.self.inside.ring.0 c.self.inside.order.items c.remove.new.self.items c.self.inside.ranks.items c.self.inside.told c.args.self.now c.args._places.now c.args.place c.args._member c.self.view_is c.requires.in_order c.requires.found c.requires.there c.requires.number c.requires.long c.remove.ensures.items
