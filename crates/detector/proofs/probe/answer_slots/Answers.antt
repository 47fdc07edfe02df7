use Rattle.std.proofs.Common.{None, ap, ◌∙◌, set, get_or, arith, ◌<◌, length}
use Rattle.std.proofs.lemmas.List.{get_or_default}
use Rattle.std.proofs.lemmas.List.Edits.{map_over_more}
use Rattle.detector.specs.Slots.{slot_answered}
use Rattle.detector.proofs.probe.answer_slots.Goals as goal

pub loop-slot-preserved : goal.loop-slot-preserved
loop-slot-preserved c =
    let i = c.loop-slot.slot-index in
    let slots = c.loop-slot.slots in
    let below : i < length slots = omega (arith, c.loop-slot-test.true, c.loop-slot.auto.slots) in
    ap (set slots i) c.answer_slot.ensures ∙ map_over_more (slot_answered c.args.nonce) c.args.slots.now slots i (get_or slots i None) c.loop-slot-test.true c.loop-slot.invariant (get_or_default slots i None (get_or slots i None) below)
