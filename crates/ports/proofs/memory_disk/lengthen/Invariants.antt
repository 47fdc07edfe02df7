use Rattle.std.proofs.Common.{◌≡◌, ◌-◌, ◌≤◌, ◌++◌, max, length, replicate, vec_capacity}
use Rattle.ports.proofs.memory_disk.lengthen.Given as goal

abbrev pub invariant-loop-bytes : goal.invariant-loop-bytes
invariant-loop-bytes l = record {
  capacity : vec_capacity l.bytes ≡ vec_capacity l.initial.bytes;
  no_shorter : length l.initial.bytes.items ≤ length l.bytes.items;
  no_longer : length l.bytes.items ≤ max l.len (length l.initial.bytes.items);
  items : l.bytes.items ≡ l.initial.bytes.items ++ replicate (length l.bytes.items - length l.initial.bytes.items) 0;
}

abbrev pub decreases-loop-bytes : goal.decreases-loop-bytes
decreases-loop-bytes l = l.len - length l.bytes.items
