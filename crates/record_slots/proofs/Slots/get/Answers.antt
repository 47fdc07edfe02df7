use Rattle.std.proofs.Common.{ℕ, None, is_some, get_or, ap, sym, ◌∙◌}
use Rattle.std.specs.FinMap.{get}
use Rattle.record_slots.proofs.SlotLemmas.{IsSlotted, get-held_in, get-unslotted}
use Rattle.record_slots.proofs.Slots.get.Goals as goal

pub returns-then-has_slot-clause-value : goal.returns-then-has_slot-clause-value
returns-then-has_slot-clause-value g c =
    let slots = c.self.inside.slots.items in
    let k = c.args.key.now in
    c.kept_in.ensures.value
    ∙ ap (λ ss. get_or ss c.slot_of.result None) c.deref.ensures.value
    ∙ ap (λ (i : ℕ). get_or slots i None) c.slot_of.ensures.value
    ∙ sym (get-held_in slots k (c.has_slot.ensures.0 c.if-has_slot.true)) ∙ ap (λ h. get h k) c.self.view_is

pub returns-then-has_slot-clause-variant : goal.returns-then-has_slot-clause-variant
returns-then-has_slot-clause-variant g c =
    let slots = c.self.inside.slots.items in
    let k = c.args.key.now in
    c.kept_in.ensures.variant
    ∙ ap (λ ss. is_some (get_or ss c.slot_of.result None)) c.deref.ensures.value
    ∙ ap (λ (i : ℕ). is_some (get_or slots i None)) c.slot_of.ensures.value
    ∙ ap is_some (sym (get-held_in slots k (c.has_slot.ensures.0 c.if-has_slot.true)) ∙ ap (λ h. get h k) c.self.view_is)

pub returns-else-has_slot-clause-value : goal.returns-else-has_slot-clause-value
returns-else-has_slot-clause-value g c =
    let slots = c.self.inside.slots.items in
    let k = c.args.key.now in
    let never : IsSlotted k → ⊥ = λ s. absurd (cc (c.has_slot.ensures.1 s.slot, c.if-has_slot.false)) in
    sym (get-unslotted slots k c.self.invariant.0.slots_few never) ∙ ap (λ h. get h k) c.self.view_is

pub returns-else-has_slot-clause-variant : goal.returns-else-has_slot-clause-variant
returns-else-has_slot-clause-variant g c =
    let slots = c.self.inside.slots.items in
    let k = c.args.key.now in
    let never : IsSlotted k → ⊥ = λ s. absurd (cc (c.has_slot.ensures.1 s.slot, c.if-has_slot.false)) in
    ap is_some (sym (get-unslotted slots k c.self.invariant.0.slots_few never) ∙ ap (λ h. get h k) c.self.view_is)
