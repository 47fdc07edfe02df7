use Rattle.world_host.proofs.DiskOpening.{open_as_told}
use Rattle.world_host.proofs.disks.stores_open_as_told.Goals as goal

pub returns : goal.returns
returns c = open_as_told
