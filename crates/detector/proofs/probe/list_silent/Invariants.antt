use Rattle.std.proofs.Common.{◌≡◌, ◌≤◌, length, map, take, vec_capacity}
use Rattle.std.specs.Prelude.{filter}
use Rattle.detector.specs.Slots.{all_missed}
use Rattle.detector.proofs.probe.list_silent.Given as goal

abbrev pub invariant-loop-probe : goal.invariant-loop-probe
invariant-loop-probe l =
    record {
      items : l.out.items ≡ map (λ p. p.member) (filter (all_missed l.misses) (take l.probe-index l.probes));
      few : length l.out.items ≤ l.probe-index;
      room : vec_capacity l.out ≡ vec_capacity l.initial.out;
    }
