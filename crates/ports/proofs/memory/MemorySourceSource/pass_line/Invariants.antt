use Rattle.std.proofs.Common.{◌≡◌, true, length}
use Rattle.ports.specs.LineReading.{PassesPart}
use Rattle.ports.proofs.memory.MemorySourceSource.pass_line.Given as goal
use Rattle.std.proofs.Common.{Some}

-- what was passed over so far has no line feed
abbrev pub invariant-bytes : goal.invariant-bytes
invariant-bytes l = record {
  open_ : l.self.is_open ≡ true;
  faults : l.self.failures ≡ l.fn.self.failures;
  passed : PassesPart (Some l.fn.self.unread) (Some l.self.unread);
}

abbrev pub decreases-bytes : goal.decreases-bytes
decreases-bytes l = length l.self.unread
