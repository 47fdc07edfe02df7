use Rattle.std.proofs.Common.{◌≡◌, drop}
use Rattle.detector.specs.Slots.{probe_in}
use Rattle.detector.proofs.probe.probe_of.Given as goal

abbrev pub invariant-loop-probe : goal.invariant-loop-probe
invariant-loop-probe l = probe_in l.probes l.member ≡ probe_in (drop l.probe-index l.probes) l.member
