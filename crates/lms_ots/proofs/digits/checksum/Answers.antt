use Rattle.std.proofs.Common.{◌≡◌, ◌∙◌, sym, arith}
use Rattle.lms_ots.specs.Ots.{width}
use Rattle.lms_ots.proofs.Chains.{checksum-is}
use Rattle.lms_ots.proofs.digits.checksum.Goals as goal

pub returns : goal.returns
returns c =
    let divisor : c.from-index-end.result ≡ width c.args.kind = c.from-index-end.ensures ∙ c.width.ensures in
    checksum-is c.args.kind c.args.hash.now c.loop-index.sum c.loop-index.index c.checksum_shift.result
    c.loop-index.invariant.summed (rw (sym divisor) (omega arith)) c.checksum_shift.ensures
