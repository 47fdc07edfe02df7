use Rattle.std.proofs.Common.{◌≡◌, ◌++◌, take}
use Rattle.epoch_store.proofs.entry.put_piece.Given as goal

abbrev pub invariant-loop-byte : goal.invariant-loop-byte
invariant-loop-byte g l = l.bytes.items ≡ l.initial.bytes.items ++ take l.byte-index l.piece
