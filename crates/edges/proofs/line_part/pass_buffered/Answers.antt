use Rattle.std.proofs.Common.{take}
use Rattle.edges.proofs.PartLemmas.{buffer-front, passes-as}
use Rattle.edges.proofs.line_part.pass_buffered.Goals as goal

pub returns : goal.returns
returns g c =
    let shown = c.buffer-bytes.result.now in
    let count = c.part_of-count.result.0 in
    record {
      passes =
          passes-as _ (take count shown) _ _ c.part_of-count.ensures.part
          (rw c.buffer-bytes.ensures (buffer-front g.R.Read.remaining c.args.reader.now c.consume.new.self count c.consume.ensures.buffer c.consume.ensures.inner c.consume.ensures.capacity));
    }
