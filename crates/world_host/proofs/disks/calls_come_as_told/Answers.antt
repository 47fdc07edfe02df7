use Rattle.world_host.proofs.DiskCalling.{calls_as_told}
use Rattle.world_host.proofs.disks.calls_come_as_told.Goals as goal

pub returns : goal.returns
returns c = calls_as_told
