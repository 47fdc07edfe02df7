use Rattle.std.proofs.Common.{arith}
use Rattle.edges.proofs.PartLemmas.{fed-part, clear-part}
use Rattle.edges.proofs.line_part.part_of.Goals as goal

pub returns-in-Some-clause-part : goal.returns-in-Some-clause-part
returns-in-Some-clause-part c = fed-part c.args.bytes.now c.min.result c.in-Some.place (omega (arith, c.requires.most)) c.in-Some.ensures.0 c.in-Some.ensures.1

pub returns-in-None-clause-part : goal.returns-in-None-clause-part
returns-in-None-clause-part c = clear-part c.args.bytes.now c.min.result c.in-None.ensures
