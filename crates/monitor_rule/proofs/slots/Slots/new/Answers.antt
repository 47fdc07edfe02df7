use Rattle.std.proofs.Common.{None, get_or, ap, ◌∙◌, arith}
use Rattle.monitor_rule.specs.Slots.{slots_of}
use Rattle.monitor_rule.proofs.SlotLemmas.{Slots}
use Rattle.monitor_rule.proofs.SlotsLemmas.{slots_of-long, slots_of-none}
use Rattle.monitor_rule.proofs.slots.Slots.new.Goals as goal

pub returns-clause-long : goal.returns-clause-long
returns-clause-long c =
    omega (arith, slots_of-long c.loop-number.hinted.items c.in_ok-with_capacity.field-0.items, c.loop-number.invariant.0, c.loop-number-test.false, c.loop-number.auto._number-end)

pub returns-clause-none : goal.returns-clause-none
returns-clause-none c = λ n.
    ap (λ (whole : Slots). get_or (slots_of c.loop-number.hinted.items whole) n None) c.in_ok-with_capacity.ensures.items ∙ slots_of-none c.loop-number.hinted.items c.loop-number.invariant.1 n
