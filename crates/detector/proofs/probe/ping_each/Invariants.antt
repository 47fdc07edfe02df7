use Rattle.std.proofs.Common.{◌≡◌, ◌++◌, length, take, drop, vec_capacity}
use Rattle.detector.specs.Slots.{with_pings, pings_with, after_nonces}
use Rattle.detector.proofs.probe.ping_each.Given as goal

-- What is done and what is left come to what all of it comes to.
abbrev pub invariant-loop-probe : goal.invariant-loop-probe
invariant-loop-probe l =
    record {
      long : length l.probes ≡ length l.initial.probes;
      left : drop l.probe-index l.probes ≡ drop l.probe-index l.initial.probes;
      probes : take l.probe-index l.probes ++ with_pings l.words (drop l.probe-index l.initial.probes) ≡ with_pings l.initial.words l.initial.probes;
      pings : l.out.items ++ pings_with l.words (drop l.probe-index l.initial.probes) ≡ pings_with l.initial.words l.initial.probes;
      words : after_nonces l.words (drop l.probe-index l.initial.probes) ≡ after_nonces l.initial.words l.initial.probes;
      few : length l.out.items ≡ l.probe-index;
      room : vec_capacity l.out ≡ vec_capacity l.initial.out;
    }
