use Rattle.world_host.proofs.DiskCalling.{start_as_told}
use Rattle.world_host.proofs.disks.lives_begin_as_told.Goals as goal

pub returns : goal.returns
returns c = start_as_told
