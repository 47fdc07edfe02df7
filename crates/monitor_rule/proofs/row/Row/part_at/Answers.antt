use Rattle.std.proofs.Common.{sym, ◌∙◌}
use Rattle.ff_ids.specs.Views.{key_at}
use Rattle.monitor_rule.proofs.OrderLemmas.{IsBetween-above, IsBetween-below}
use Rattle.monitor_rule.proofs.row.Row.part_at.Goals as goal

pub returns-then-is_behind : goal.returns-then-is_behind
returns-then-is_behind g c =
    let row = c.args.self.now in
    record { between = IsBetween-above c.args.slots.now row (key_at row.ring c.args.places.now c.args.member) c.args.low c.args.index c.args.high c.requires.in_order c.requires.between c.requires.until (sym c.is_behind.ensures.value ∙ c.if-is_behind.true) }

pub returns-else-is_behind : goal.returns-else-is_behind
returns-else-is_behind g c =
    let row = c.args.self.now in
    record { between = IsBetween-below c.args.slots.now row (key_at row.ring c.args.places.now c.args.member) c.args.low c.args.index c.args.high c.requires.in_order c.requires.between c.requires.from c.requires.until (sym c.is_behind.ensures.value ∙ c.if-is_behind.false) }
