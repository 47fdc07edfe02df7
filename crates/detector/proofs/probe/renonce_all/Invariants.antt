use Rattle.std.proofs.Common.{◌≡◌, ◌++◌, map, take, drop}
use Rattle.detector.specs.Slots.{nonced_where}
use Rattle.detector.proofs.probe.renonce_all.Given as goal

abbrev pub invariant-loop-probe : goal.invariant-loop-probe
invariant-loop-probe l = l.probes ≡ map (nonced_where l.to l.nonce) (take l.probe-index l.initial.probes) ++ drop l.probe-index l.initial.probes
