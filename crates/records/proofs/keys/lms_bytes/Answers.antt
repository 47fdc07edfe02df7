use Rattle.std.proofs.Common.{arith}
use Rattle.records.proofs.KeyParts.{key_parts}
use Rattle.records.proofs.keys.lms_bytes.Goals as goal

pub returns-clause-parts : goal.returns-clause-parts
returns-clause-parts c = key_parts c.write.result c.args.key.now (omega arith) c.write.ensures.read_back
