use Rattle.world_laws.proofs.AsCalled.{leave-as-called}
use Rattle.world_laws.proofs.nodes_leave_as_called.Goals as goal

pub returns : goal.returns
returns c = leave-as-called
