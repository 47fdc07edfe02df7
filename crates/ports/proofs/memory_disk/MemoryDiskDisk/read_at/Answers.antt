use Rattle.ports.proofs.TurnLemmas.{idle_stays_on_err}
use Rattle.ports.proofs.memory_disk.MemoryDiskDisk.read_at.Goals as goal

pub returns-in_err-idle_call-clause-stays : goal.returns-in_err-idle_call-clause-stays
returns-in_err-idle_call-clause-stays c =
    idle_stays_on_err _ c.args.self.now c.idle_call.new.self _ c.idle_call.ensures.after
