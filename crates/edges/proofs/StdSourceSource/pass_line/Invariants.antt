use Rattle.std.proofs.Common.{◌≡◌, true}
use Rattle.std.specs.Io.Buffered.{reader_remaining}
use Rattle.ports.specs.LineReading.{PassesPart}
use Rattle.edges.proofs.StdSourceSource.pass_line.Given as goal

-- what was passed over so far has no line feed
abbrev pub invariant-parts : goal.invariant-parts
invariant-parts g l = record {
  open_ : l.self.is_open ≡ true;
  faults : l.self.faults ≡ l.fn.self.faults;
  passed : PassesPart (reader_remaining g.R.Read.remaining l.fn.self.reader) (reader_remaining g.R.Read.remaining l.self.reader);
}
