use Rattle.world_host.proofs.DiskPuts.{put_as_told}
use Rattle.world_host.proofs.disks.entries_are_put_as_told.Goals as goal

pub returns : goal.returns
returns c = put_as_told
