use Rattle.world_host.proofs.DiskMaking.{make_as_told}
use Rattle.world_host.proofs.disks.stores_are_made_as_told.Goals as goal

pub returns : goal.returns
returns c = make_as_told
