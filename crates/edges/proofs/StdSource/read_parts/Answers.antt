use Rattle.std.proofs.Common.{arith}
use Rattle.edges.proofs.PartLemmas.{last-fed}
use Rattle.edges.proofs.StdSource.read_parts.Goals as goal

pub returns-in-Ok-Some-Last-clause-reads : goal.returns-in-Ok-Some-Last-clause-reads
returns-in-Ok-Some-Last-clause-reads g c =
    let gained = rw (c.in-Ok-Some-Last.field-0-is, c.in-Ok-Some-Last.field-0-0-is) at c.in-Ok-Some-Last.ensures.takes in
    let whole = last-fed _ _ _ _ _ c.parts.invariant.clear c.parts.invariant.front gained (omega (arith, c.take_part.ensures.fits, c.parts-test.true)) in
    record { front = whole.1; ends = whole.0 }
