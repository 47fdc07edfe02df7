use Rattle.std.proofs.Common.{ap, sym, subst}
use Rattle.record_slots.specs.Slots.{held_in, IsReady}
use Rattle.record_slots.proofs.ReadyLemmas.{ready-none}
use Rattle.record_slots.proofs.Slots.open.Goals as goal

pub invariant_of-result : goal.invariant_of-result
invariant_of-result g c = (
  subst (λ ss. IsReady g.R.Slotted.body ss c.in_ok-entries.entries.items) (sym c.in_ok-slots.ensures.items) (ready-none g.R.Slotted.body c.in_ok-entries.entries.items c.in_ok-entries.ensures.all c.in_ok-entries.ensures.none),
  c.in_ok-slots.ensures.capacity,
)

pub returns : goal.returns
returns g c = ap held_in c.in_ok-slots.ensures.items
