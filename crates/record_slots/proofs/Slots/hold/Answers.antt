use Rattle.std.proofs.Common.{◌≡◌, ℕ, ◌<◌, Some, length, ap, sym, subst, ◌∙◌, arith}
use Rattle.std.specs.Prelude.{slice_set}
use Rattle.std.specs.FinMap.{insert}
use Rattle.ff_ids.specs.declared.summary.RecordKey.{RecordKey}
use Rattle.record_slots.specs.Slots.{slot_of, held_in, entry_in}
use Rattle.record_slots.proofs.SlotLemmas.{IsSlotted, held_in-same, held_in-put}
use Rattle.record_slots.proofs.ReadyLemmas.{ready-put, ready-reached}
use Rattle.record_slots.proofs.Slots.hold.Goals as goal

pub invariant_of-self : goal.invariant_of-self
invariant_of-self g c =
    let slots = c.self.inside.slots.items in
    let reached = c.reach.new.slots.items in
    let entries = c.self.inside.entries.items in
    let k : RecordKey = c.args.key.now in
    let at : IsSlotted k = record { member = omega (arith, c.member_of-member.ensures, c.fresh_entry.ensures.range); slot = c.requires } in
    let ready = ready-reached g.R.Slotted.body slots reached entries c.reach.ensures.few c.reach.ensures.same c.self.invariant.0 in (
      ready-put g.R.Slotted.body reached entries k (Some c.args.kept) c.slot_of-slot.result c.get.result c.fresh_entry.result ready at c.slot_of-slot.ensures.value (c.get.ensures.value ∙ c.member_of-member.ensures)
          (c.fresh_entry.ensures.value ∙ ap (λ ss. entry_in g.R.Slotted.body ss c.member_of-member.result) c.deref.ensures.value ∙ ap (entry_in g.R.Slotted.body (slice_set reached c.slot_of-slot.result (Some c.args.kept))) (sym c.get.ensures.value)),
      c.reach.ensures.room,
    )

pub returns : goal.returns
returns g c =
    let slots = c.self.inside.slots.items in
    let reached = c.reach.new.slots.items in
    let k : RecordKey = c.args.key.now in
    let at : IsSlotted k = record { member = omega (arith, c.member_of-member.ensures, c.fresh_entry.ensures.range); slot = c.requires } in
    let slot : c.slot_of-slot.result ≡ slot_of k = c.slot_of-slot.ensures.value in
    let within : slot_of k < length reached = subst (λ (s : ℕ). s < length reached) slot c.reach.ensures.reached in
    ap (λ (s : ℕ). held_in (slice_set reached s (Some c.args.kept))) slot
    ∙ held_in-put reached k c.args.kept c.reach.ensures.few within at
    ∙ ap (λ h. insert h k c.args.kept) (held_in-same reached slots c.reach.ensures.few c.self.invariant.0.slots_few c.reach.ensures.same ∙ c.self.view_is)
