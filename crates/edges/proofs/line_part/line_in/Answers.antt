use Rattle.std.proofs.Common.{arith}
use Rattle.edges.proofs.PartLemmas.{fed-part}
use Rattle.edges.proofs.line_part.line_in.Goals as goal

pub returns-in-Some-clause-line : goal.returns-in-Some-clause-line
returns-in-Some-clause-line c = fed-part c.args.bytes.now c.min.result c.in-Some.place (omega arith) c.in-Some.ensures.0 c.in-Some.ensures.1
