use Rattle.records.proofs.KeyParts.{hss_parts}
use Rattle.records.proofs.keys.hss_bytes.Goals as goal

pub returns-clause-parts : goal.returns-clause-parts
returns-clause-parts c = hss_parts c.write.result c.args.key.now c.write.ensures.read_back
