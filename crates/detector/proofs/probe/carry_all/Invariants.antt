use Rattle.std.proofs.Common.{◌≡◌, length, take, vec_capacity}
use Rattle.detector.specs.Slots.{carried_all}
use Rattle.detector.proofs.probe.carry_all.Given as goal

abbrev pub invariant-loop-each : goal.invariant-loop-each
invariant-loop-each l =
    record {
      items : l.out.items ≡ carried_all l.probes (take l.each-index l.watched);
      few : length l.out.items ≡ l.each-index;
      room : vec_capacity l.out ≡ vec_capacity l.initial.out;
    }
