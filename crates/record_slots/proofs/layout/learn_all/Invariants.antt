use Rattle.std.proofs.Common.{◌≡◌, ◌++◌, map, take, drop}
use Rattle.std.specs.Option.{option_map}
use Rattle.record_slots.proofs.layout.learn_all.Given as goal

abbrev pub invariant-loop-slot : goal.invariant-loop-slot
invariant-loop-slot g l = l.slots ≡ map (option_map (g.R.Learns.learned l.news)) (take l.slot-index l.initial.slots) ++ drop l.slot-index l.initial.slots
