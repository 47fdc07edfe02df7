use Rattle.std.proofs.Common.{◌≡◌, ◌++◌, take}
use Rattle.std.specs.List.{flat_map}
use Rattle.records.specs.Spelling.{record_bytes}
use Rattle.datagram.proofs.writing.put_records.Given as goal

abbrev pub invariant-loop-rec : goal.invariant-loop-rec
invariant-loop-rec l = l.bytes.items ≡ l.fn.bytes.items ++ flat_map record_bytes (take l.rec-index l.records)
