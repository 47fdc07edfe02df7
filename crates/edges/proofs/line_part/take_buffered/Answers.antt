use Rattle.std.proofs.Common.{take, arith, rules, length-take}
use Rattle.edges.proofs.PartLemmas.{buffer-front}
use Rattle.edges.proofs.line_part.take_buffered.Goals as goal

pub returns-clause-gained : goal.returns-clause-gained
returns-clause-gained g c =
    let shown = c.buffer-bytes.result.now in
    let count = c.part_of-count.result.0 in
    record {
      bytes = take count shown;
      some = omega (arith, length-take count shown, c.part_of-count.ensures.some, c.part_of-count.ensures.within);
      is = c.part_of-count.ensures.part;
      grown = search rules;
      read = rw c.buffer-bytes.ensures (buffer-front g.R.Read.remaining c.args.reader.now c.consume.new.self count c.consume.ensures.buffer c.consume.ensures.inner c.consume.ensures.capacity);
    }
