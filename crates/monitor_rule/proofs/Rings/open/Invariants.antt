use Rattle.std.proofs.Common.{◌≡◌, [], length, map}
use Rattle.std.specs.List.{All, range_with_len}
use Rattle.monitor_rule.proofs.Rings.open.Given as goal

abbrev pub invariant-loop-ring : goal.invariant-loop-ring
invariant-loop-ring l =
    record {
      numbered : map (λ r. r.ring) l.rows.items ≡ range_with_len 0 l.ring;
      empty : All (λ r. r.order ≡ []) l.rows.items;
      long : length l.rows.items ≡ l.ring;
    }
