use Rattle.std.proofs.Common.{◌∙◌, sym, arith}
use Rattle.std.proofs.Math.Facts.{Fits-lt-pow}
use Rattle.hss.proofs.Keys.{key-spelled}
use Rattle.hss.proofs.key.HssKey.read.Goals as goal

pub returns-clause-spelled : goal.returns-clause-spelled
returns-clause-spelled c =
    rw c.key_over.ensures (key-spelled c.args.bytes.now c.read.result (omega arith) (λ k. Fits-lt-pow (c.type_inv.bytes k))
    (sym c.number_at-found.ensures ∙ c.if-found-ne2.false) c.read.ensures.spelled)
