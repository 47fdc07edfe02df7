use Rattle.std.proofs.Common.{ℕ, is_ok, vec_capacity, ap, ◌∙◌, arith}
use Rattle.monitor_rule.proofs.KeptLemmas.{joined_row}
use Rattle.monitor_rule.proofs.row.Row.join.Goals as goal

pub returns-clause-in_order : goal.returns-clause-in_order
returns-clause-in_order c =
    let rank = c.new.ensures ∙ ap (λ (h : ℕ). record { hint = h; number = c.args.member }) c.hint-hint.ensures in
    rw (c.get.ensures.value, c.is_telling.ensures, c.hint-hint.ensures, rank) (joined_row c.args.slots.now c.self.inside.ring.0 c.self.inside.order.items c.insert.new.self.items c.self.inside.ranks.items c.reach.new.ranks.items c.self.inside.told c.args.self.now c.args.places.now c.args.place c.args.member (vec_capacity c.self.inside.order) (is_ok c.insert.result) c.self.view_is c.requires.in_order c.requires.found c.requires.free c.requires.number c.requires.long c.requires.placed c.insert.ensures.items c.self.invariant.0 (λ h. c.insert.ensures.succeeds (omega (arith, h, c.self.inside.order.ok.0))) c.reach.ensures.reached c.reach.ensures.same)
