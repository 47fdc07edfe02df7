use Rattle.std.proofs.Common.{None, refl, ap, ◌∙◌, length, length-append, ◌∷◌, [], arith}
use Rattle.membership.specs.Slots.{taken_from}
use Rattle.membership.proofs.SlotLemmas.{taken-push}
use Rattle.membership.proofs.by_member.reach.Goals as goal

pub growing-init : goal.growing-init
growing-init g c = record { few = c.requires.few; room = c.requires.room; same = refl }

pub growing-preserved : goal.growing-preserved
growing-preserved g c =
    record {
      few = omega (arith, ap length c.push_reserved.ensures.items, length-append c.growing.slots.items (None ∷ []), c.growing-test.true, c.requires.within);
      room = omega (arith, c.push_reserved.ensures.capacity, c.growing.invariant.room);
      same = ap (taken_from 0) c.push_reserved.ensures.items ∙ taken-push 0 c.growing.slots.items ∙ c.growing.invariant.same;
    }
