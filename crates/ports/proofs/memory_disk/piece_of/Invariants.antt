use Rattle.std.proofs.Common.{◌≡◌, take}
use Rattle.ports.proofs.memory_disk.piece_of.Given as goal

abbrev pub invariant-loop-byte : goal.invariant-loop-byte
invariant-loop-byte l = l.piece.items ≡ take l.byte-index l.bytes
