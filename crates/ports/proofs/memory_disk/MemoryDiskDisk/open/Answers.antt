use Rattle.ports.proofs.TurnLemmas.{idle_failed}
use Rattle.ports.proofs.memory_disk.MemoryDiskDisk.open.Goals as goal

pub returns-in-Err-clause-opens : goal.returns-in-Err-clause-opens
returns-in-Err-clause-opens c = idle_failed c.args.self.now c.idle_call.new.self _ c.idle_call.ensures.after
