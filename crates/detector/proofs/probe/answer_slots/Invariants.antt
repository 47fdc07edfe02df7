use Rattle.std.proofs.Common.{◌≡◌, ◌++◌, map, take, drop}
use Rattle.detector.specs.Slots.{slot_answered}
use Rattle.detector.proofs.probe.answer_slots.Given as goal

abbrev pub invariant-loop-slot : goal.invariant-loop-slot
invariant-loop-slot l = l.slots ≡ map (slot_answered l.nonce) (take l.slot-index l.initial.slots) ++ drop l.slot-index l.initial.slots
