use Rattle.std.proofs.Common.{◌≡◌, map, take}
use Rattle.record_slots.specs.Picks.{held_all}
use Rattle.audit_node.specs.Exchanging.{item_as}
use Rattle.audit_node.proofs.exchange.items_under.Given as goal

abbrev pub invariant-loop-key : goal.invariant-loop-key
invariant-loop-key l = l.items.items ≡ map item_as (held_all l.fn.records (take l.key-index l.keys))
