use Rattle.std.proofs.Common.{◌≡◌, ◌*◌, ◌≤◌}
use Rattle.lms_ots.specs.Ots.{complement_sum, greatest_digit, width}
use Rattle.lms_ots.proofs.digits.checksum.Given as goal

abbrev pub invariant-loop-index : goal.invariant-loop-index
invariant-loop-index l = record {
  summed : l.sum ≡ complement_sum l.hash (width l.kind) l.index;
  bound : l.sum ≤ l.index * greatest_digit l.kind;
}
