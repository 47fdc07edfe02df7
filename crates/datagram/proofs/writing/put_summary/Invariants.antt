use Rattle.std.proofs.Common.{◌≡◌, ◌++◌, take}
use Rattle.std.specs.List.{flat_map}
use Rattle.datagram.specs.Spelling.{entry_bytes}
use Rattle.datagram.proofs.writing.put_summary.Given as goal

abbrev pub invariant-loop-entry : goal.invariant-loop-entry
invariant-loop-entry l = l.writer ≡ l.initial.writer ++ flat_map (entry_bytes l.wide) (take l.entry-index l.entries)
