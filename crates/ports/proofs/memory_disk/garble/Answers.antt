use Rattle.std.proofs.Common.{◌<◌, length, arith}
use Rattle.ports.proofs.ByteLemmas.{garbled_more}
use Rattle.ports.proofs.memory_disk.garble.Goals as goal

pub loop-place-preserved : goal.loop-place-preserved
loop-place-preserved c =
    let within : c.loop-place.place < length c.loop-place.image = omega arith in
    garbled_more _ _ _ _ _ c.loop-place.image within c.garbled_byte.ensures c.loop-place.invariant
