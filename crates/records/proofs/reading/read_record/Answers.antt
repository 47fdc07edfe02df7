use Rattle.std.proofs.Common.{arith}
use Rattle.records.proofs.Records.{is_found, is_given}
use Rattle.records.proofs.reading.read_record.Goals as goal

pub returns-clause-found : goal.returns-clause-found
returns-clause-found c = is_found c.args.bytes.now _ (λ i. omega (arith, c.type_inv.bytes i)) c.front_record.ensures

pub returns-clause-only : goal.returns-clause-only
returns-clause-only c = is_given c.args.bytes.now _ c.front_record.ensures
