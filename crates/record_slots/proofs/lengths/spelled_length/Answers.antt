use Rattle.std.proofs.Common.{◌≡◌, length, ap, arith}
use Rattle.record_slots.proofs.LengthLemmas.{record_long}
use Rattle.record_slots.proofs.lengths.spelled_length.Goals as goal

pub overflow_add-result-2 : goal.overflow_add-result-2
overflow_add-result-2 c =
    let same : length c.as_slice.result.now ≡ length c.args.rec.now.signature = ap length c.as_slice.ensures in
    omega (arith, same, c.requires.signature.few, c.body_length.ensures.few)

pub returns : goal.returns
returns c =
    let same : length c.as_slice.result.now ≡ length c.args.rec.now.signature = ap length c.as_slice.ensures in
    omega (arith, same, record_long c.args.rec.now, c.body_length.ensures.value)
