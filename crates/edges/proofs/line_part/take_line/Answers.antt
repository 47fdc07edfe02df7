use Rattle.std.proofs.Common.{◌≡◌, take, sym, subst, rules}
use Rattle.std.specs.Io.Buffered.{reader_remaining}
use Rattle.std.specs.Io.KnownBytes.{Consumes}
use Rattle.text_trace.specs.Lines.{IsFed}
use Rattle.edges.proofs.PartLemmas.{buffer-front}
use Rattle.edges.proofs.line_part.take_line.Goals as goal

pub returns-in-Ok-clause-takes : goal.returns-in-Ok-clause-takes
returns-in-Ok-clause-takes g c =
    let shown = c.buffer-bytes.result.now in
    let count = c.in-Some.count in
    let line : c.extend_from_slice.new.self.items ≡ take count shown = search rules in
    record {
      front = subst (Consumes (reader_remaining g.R.Read.remaining c.args.reader.now) (reader_remaining g.R.Read.remaining c.consume.new.self)) (sym line) (rw c.buffer-bytes.ensures (buffer-front g.R.Read.remaining c.args.reader.now c.consume.new.self count c.consume.ensures.buffer c.consume.ensures.inner c.consume.ensures.capacity));
      ends = subst IsFed (sym line) c.in-Some.ensures.line;
    }
