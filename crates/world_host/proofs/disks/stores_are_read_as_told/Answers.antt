use Rattle.world_host.proofs.DiskReading.{read_as_told}
use Rattle.world_host.proofs.disks.stores_are_read_as_told.Goals as goal

pub returns : goal.returns
returns c = read_as_told
