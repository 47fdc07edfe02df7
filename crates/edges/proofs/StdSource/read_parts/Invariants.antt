use Rattle.std.proofs.Common.{◌≡◌, ◌≤◌, ◌-◌, true, vec_capacity, vec_len}
use Rattle.std.specs.Io.Buffered.{reader_remaining}
use Rattle.std.specs.Io.KnownBytes.{Consumes}
use Rattle.text_trace.specs.Lines.{has_no_feed, seen_bytes}
use Rattle.edges.proofs.StdSource.read_parts.Given as goal

-- what was taken so far has no line feed
abbrev pub invariant-parts : goal.invariant-parts
invariant-parts g l = record {
  open_ : l.self.is_open ≡ true;
  faults : l.self.faults ≡ l.fn.self.faults;
  front : Consumes (reader_remaining g.R.Read.remaining l.fn.self.reader) (reader_remaining g.R.Read.remaining l.self.reader) l.line.items;
  clear : has_no_feed l.line.items ≡ true;
  short : vec_len l.line ≤ seen_bytes;
  room : seen_bytes ≤ vec_capacity l.line;
  kept : vec_capacity l.fn.line ≤ vec_capacity l.line;
}

abbrev pub decreases-parts : goal.decreases-parts
decreases-parts g l = seen_bytes - vec_len l.line
