use Rattle.std.proofs.Common.{ℕ, None, get_or, ap, sym, subst, ◌∙◌, arith}
use Rattle.std.specs.Prelude.{slice_set}
use Rattle.std.specs.FinMap.{get, remove}
use Rattle.ff_ids.specs.declared.summary.RecordKey.{RecordKey}
use Rattle.record_slots.specs.Slots.{held_in, entry_in, IsReady}
use Rattle.record_slots.proofs.SlotLemmas.{IsSlotted, get-held_in, get-unslotted, held_in-drop, held_in-no_drop}
use Rattle.record_slots.proofs.ReadyLemmas.{ready-put}
use Rattle.record_slots.proofs.Slots.take_out.Goals as goal

pub invariant_of-self : goal.invariant_of-self
invariant_of-self g c =
    let slots = c.self.inside.slots.items in
    let entries = c.self.inside.entries.items in
    let k : RecordKey = c.args.key.now in
    let at : IsSlotted k = record { member = omega (arith, c.member_of-member.ensures, c.fresh_entry.ensures.range); slot = c.has_slot.ensures.0 c.if-has_slot.true } in
    let ready = ready-put g.R.Slotted.body slots entries k None c.slot_of.result c.get.result c.fresh_entry.result c.self.invariant.0 at c.slot_of.ensures.value (c.get.ensures.value ∙ c.member_of-member.ensures)
    (c.fresh_entry.ensures.value ∙ ap (λ ss. entry_in g.R.Slotted.body ss c.member_of-member.result) (c.deref.ensures.value ∙ c.clear-taken.ensures.items) ∙ ap (entry_in g.R.Slotted.body (slice_set slots c.slot_of.result None)) (sym c.get.ensures.value)) in (
      subst (λ ss. IsReady g.R.Slotted.body ss (slice_set entries c.get.result c.fresh_entry.result)) (sym c.clear-taken.ensures.items) ready,
      omega (arith, c.clear-taken.ensures.room, c.self.invariant.1),
    )

pub returns-then-has_slot-clause-held : goal.returns-then-has_slot-clause-held
returns-then-has_slot-clause-held g c =
    let slots = c.self.inside.slots.items in
    let k : RecordKey = c.args.key.now in
    let at : IsSlotted k = record { member = omega (arith, c.member_of-member.ensures, c.fresh_entry.ensures.range); slot = c.has_slot.ensures.0 c.if-has_slot.true } in
    ap held_in c.clear-taken.ensures.items
    ∙ ap (λ (s : ℕ). held_in (slice_set slots s None)) c.slot_of.ensures.value ∙ held_in-drop slots k c.self.invariant.0.slots_few at ∙ ap (λ h. remove h k) c.self.view_is

pub returns-then-has_slot-clause-taken : goal.returns-then-has_slot-clause-taken
returns-then-has_slot-clause-taken g c =
    let slots = c.self.inside.slots.items in
    let k : RecordKey = c.args.key.now in
    c.clear-taken.ensures.value ∙ ap (λ (s : ℕ). get_or slots s None) c.slot_of.ensures.value
    ∙ sym (get-held_in slots k (c.has_slot.ensures.0 c.if-has_slot.true)) ∙ ap (λ h. get h k) c.self.view_is

pub returns-else-has_slot-clause-held : goal.returns-else-has_slot-clause-held
returns-else-has_slot-clause-held g c =
    let slots = c.self.inside.slots.items in
    let k : RecordKey = c.args.key.now in
    let never : IsSlotted k → ⊥ = λ s. absurd (cc (c.has_slot.ensures.1 s.slot, c.if-has_slot.false)) in
    sym c.self.view_is ∙ held_in-no_drop slots k c.self.invariant.0.slots_few never ∙ ap (λ h. remove h k) c.self.view_is

pub returns-else-has_slot-clause-taken : goal.returns-else-has_slot-clause-taken
returns-else-has_slot-clause-taken g c =
    let slots = c.self.inside.slots.items in
    let k : RecordKey = c.args.key.now in
    let never : IsSlotted k → ⊥ = λ s. absurd (cc (c.has_slot.ensures.1 s.slot, c.if-has_slot.false)) in
    sym (get-unslotted slots k c.self.invariant.0.slots_few never) ∙ ap (λ h. get h k) c.self.view_is
