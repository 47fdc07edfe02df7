use Rattle.world_host.proofs.DiskOpening.{crash_as_told}
use Rattle.world_host.proofs.disks.crashes_leave_the_store.Goals as goal

pub returns : goal.returns
returns c = crash_as_told
