use Rattle.std.proofs.Common.{◌≡◌, ◌≤◌, ◌-◌, true, vec_capacity, vec_len}
use Rattle.std.specs.Io.KnownBytes.{Consumes}
use Rattle.text_trace.specs.Lines.{has_no_feed, seen_bytes}
use Rattle.ports.proofs.Source.read_line.Given as goal

-- what was taken so far has no line feed
abbrev pub invariant-bytes : goal.invariant-bytes
invariant-bytes g l = record {
  open_ : (g.Self.Source.state l.self).is_open ≡ true;
  faults : (g.Self.Source.state l.self).faults ≡ (g.Self.Source.state l.fn.self).faults;
  front : Consumes (g.Self.Source.state l.fn.self).left (g.Self.Source.state l.self).left l.line.items;
  clear : has_no_feed l.line.items ≡ true;
  short : vec_len l.line ≤ seen_bytes;
  room : seen_bytes ≤ vec_capacity l.line;
  kept : vec_capacity l.fn.line ≤ vec_capacity l.line;
}

abbrev pub decreases-bytes : goal.decreases-bytes
decreases-bytes g l = seen_bytes - vec_len l.line
