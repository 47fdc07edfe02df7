use Rattle.std.proofs.Common.{None, get_or, refl, ap, ◌∙◌, length, length-append, ◌∷◌, [], arith}
use Rattle.monitor_rule.proofs.SlotsLemmas.{push-none}
use Rattle.monitor_rule.proofs.slots.reach.Goals as goal

pub growing-init : goal.growing-init
growing-init c = record { few = c.requires.few; room = c.requires.room; same = λ k. refl }

pub growing-preserved : goal.growing-preserved
growing-preserved c =
    record {
      few = omega (arith, ap length c.push_reserved.ensures.items, length-append c.growing.slots.items (None ∷ []), c.growing-test.true, c.requires.within);
      room = omega (arith, c.push_reserved.ensures.capacity, c.growing.invariant.room);
      same = λ k. ap (λ xs. get_or xs k None) c.push_reserved.ensures.items ∙ push-none c.growing.slots.items k ∙ c.growing.invariant.same k;
    }
