use Rattle.std.proofs.Common.{refl}
use Rattle.records.specs.Signing.{signed_bytes}
use Rattle.validate.proofs.VerdictLemmas.{good-verdict}
use Rattle.validate.proofs.table.Observer.check_signature.Goals as goal

pub returns-in-Ok-clause-fault : goal.returns-in-Ok-clause-fault
returns-in-Ok-clause-fault c =
    rw (good-verdict c.args.key.now (signed_bytes c.args.self.now.group.now.tag c.args.self.now.group.now.t c.args.rec.body) c.args.rec.signature (c.in-Ok.ensures.decides.0 refl)) refl
