use Rattle.std.proofs.Common.{◌≡◌, All, IsSome, take}
use Rattle.record_set.specs.Held.{held_under}
use Rattle.record_set.specs.Picks.{held_all}
use Rattle.node_core.proofs.exchange.held_keys.Given as goal

abbrev pub invariant-loop-key : goal.invariant-loop-key
invariant-loop-key l = record {
  all : All (λ k. IsSome (held_under l.fn.records k)) l.held.items;
  same : held_all l.fn.records l.held.items ≡ held_all l.fn.records (take l.key-index l.keys);
}
