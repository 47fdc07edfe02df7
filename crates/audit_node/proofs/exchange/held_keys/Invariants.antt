use Rattle.std.proofs.Common.{◌≡◌, All, IsSome, take}
use Rattle.record_slots.specs.Held.{held_under}
use Rattle.record_slots.specs.Picks.{held_all}
use Rattle.audit_node.proofs.exchange.held_keys.Given as goal

abbrev pub invariant-loop-key : goal.invariant-loop-key
invariant-loop-key l = record {
  all : All (λ k. IsSome (held_under l.fn.records k)) l.held.items;
  same : held_all l.fn.records l.held.items ≡ held_all l.fn.records (take l.key-index l.keys);
}
