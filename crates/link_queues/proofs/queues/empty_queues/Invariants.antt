use Rattle.std.proofs.Common.{◌≡◌, ◌≤◌, replicate}
use Rattle.std.specs.Prelude.{vec_capacity}
use Rattle.link_queues.specs.Queues.{empty_queue}
use Rattle.link_queues.proofs.queues.empty_queues.Given as goal

abbrev pub invariant-loop-made : goal.invariant-loop-made
invariant-loop-made l = record {
  made : l.queues.items ≡ replicate l._made (empty_queue l.sizes);
  room : l.count ≤ vec_capacity l.queues;
}
