use Rattle.world_host.proofs.DiskOpening.{arm_as_told}
use Rattle.world_host.proofs.disks.stops_are_armed_as_told.Goals as goal

pub returns : goal.returns
returns c = arm_as_told
