use Rattle.std.proofs.Common.{refl}
use Rattle.ports.specs.DiskLaws.{length-written}
use Rattle.ports.proofs.memory_disk.File.write.Goals as goal

pub returns : goal.returns
returns c =
    let size = length-written c.args.place c.args.bytes.now c.self.inside.image.items in
    rw (← c.self.view_is, c.write_over.ensures.items, c.push_reserved.ensures.items, size) refl
