use Rattle.std.proofs.Common.{◌≡◌, None, length, map, set}
use Rattle.std.specs.List.{AllWithin}
use Rattle.monitor_rule.specs.Sorted.{AreFound, IsRow}
use Rattle.monitor_rule.proofs.leave_each.Given as goal

abbrev pub invariant-loop-index : goal.invariant-loop-index
invariant-loop-index l =
    record {
      done : AllWithin (IsRow (set l.slots l.member None)) l.rows 0 l.index;
      left : AllWithin (IsRow l.slots) l.rows l.index (length l.rows);
      rings : map (λ r. r.ring) l.rows ≡ map (λ r. r.ring) l.initial.rows;
      found : AreFound l.slots l.places l.member l.found l.rows l.index;
      long : length l.rows ≡ length l.initial.rows;
    }
