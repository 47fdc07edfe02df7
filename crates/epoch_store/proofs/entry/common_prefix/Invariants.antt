use Rattle.std.proofs.Common.{◌≡◌, ◌+◌, ◌≤◌, length, drop, nat_eq}
use Rattle.std.specs.List.{common_prefix_len}
use Rattle.epoch_store.proofs.entry.common_prefix.Given as goal

abbrev pub invariant-loop-place : goal.invariant-loop-place
invariant-loop-place l = record {
  within : l.place ≤ length l.b;
  so_far : l.place + common_prefix_len nat_eq (drop l.place l.a) (drop l.place l.b) ≡ common_prefix_len nat_eq l.a l.b;
}
