use Rattle.std.proofs.Common.{◌≡◌, ◌<◌, Some, length, map, set}
use Rattle.std.specs.List.{All, AllWithin}
use Rattle.monitor_rule.specs.Sorted.{AreFound, IsRow}
use Rattle.monitor_rule.proofs.join_each.Given as goal

abbrev pub invariant-loop-index : goal.invariant-loop-index
invariant-loop-index l =
    record {
      done : AllWithin (IsRow (set l.slots l.member (Some l.places))) l.rows 0 l.index;
      left : AllWithin (IsRow l.slots) l.rows l.index (length l.rows);
      placed : All (λ r. r.ring < length l.places) l.rows;
      rings : map (λ r. r.ring) l.rows ≡ map (λ r. r.ring) l.initial.rows;
      found : AreFound l.slots l.places l.member l.found l.rows l.index;
      long : length l.rows ≡ length l.initial.rows;
    }
