use Rattle.record_slots.proofs.PickLemmas.{IsSoFar}
use Rattle.record_slots.proofs.Slots.fitting.Given as goal

abbrev pub invariant-loop-count : goal.invariant-loop-count
invariant-loop-count g l = IsSoFar g.R.Slotted.spelled_length l.self l.keys l.count l.room l.left
