use Rattle.std.proofs.Common.{None, get_or, refl, ap, ◌∙◌, length, length-append, ◌∷◌, [], arith}
use Rattle.record_slots.proofs.SlotLemmas.{push-none}
use Rattle.record_slots.proofs.layout.reach.Goals as goal

pub growing-init : goal.growing-init
growing-init g c = record { few = c.requires.few; room = c.requires.room; same = λ k. refl }

pub growing-preserved : goal.growing-preserved
growing-preserved g c =
    record {
      few = omega (arith, ap length c.push_reserved.ensures.items, length-append c.growing.slots.items (None ∷ []), c.growing-test.true, c.requires.slot);
      room = omega (arith, c.push_reserved.ensures.capacity, c.growing.invariant.room);
      same = λ k. ap (λ xs. get_or xs k None) c.push_reserved.ensures.items ∙ push-none c.growing.slots.items k ∙ c.growing.invariant.same k;
    }
