use Rattle.std.proofs.Common.{◌≡◌, ◌++◌, map, take, drop}
use Rattle.detector.specs.Slots.{answered_where}
use Rattle.detector.proofs.probe.answer_all.Given as goal

abbrev pub invariant-loop-probe : goal.invariant-loop-probe
invariant-loop-probe l = l.probes ≡ map (answered_where l.misses l.from l.nonce) (take l.probe-index l.initial.probes) ++ drop l.probe-index l.initial.probes
