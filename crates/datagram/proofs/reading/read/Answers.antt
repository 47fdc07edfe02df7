use Rattle.std.proofs.Common.{arith}
use Rattle.datagram.proofs.Readings.{is_found, is_given, is_writable}
use Rattle.datagram.proofs.reading.read.Goals as goal

pub returns-clause-found : goal.returns-clause-found
returns-clause-found c = is_found c.args.bytes.now _ (λ i. omega (arith, c.type_inv.bytes i)) c.read_whole.ensures

pub returns-clause-writable : goal.returns-clause-writable
returns-clause-writable c = is_writable c.args.bytes.now _ (λ i. omega (arith, c.type_inv.bytes i)) c.read_whole.ensures

pub returns-clause-only : goal.returns-clause-only
returns-clause-only c = is_given c.args.bytes.now _ c.read_whole.ensures
