use Rattle.std.proofs.Common.{◌≡◌, length, map, take}
use Rattle.ff_ids.specs.declared.TheConstants.{MAX_RINGS}
use Rattle.ring_order.specs.Rows.{place_of_number}
use Rattle.monitor_rule.proofs.slots.Hints.of.Given as goal

abbrev pub invariant-loop-ring : goal.invariant-loop-ring
invariant-loop-ring l = record { long : length l.list ≡ MAX_RINGS; told : map place_of_number (take l.ring l.list) ≡ take l.ring l.places }
