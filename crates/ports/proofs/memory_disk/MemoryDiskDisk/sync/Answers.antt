use Rattle.ports.proofs.TurnLemmas.{sync_settles_on_ok, sync_stays_on_err}
use Rattle.ports.proofs.memory_disk.MemoryDiskDisk.sync.Goals as goal

pub returns-clause-settles : goal.returns-clause-settles
returns-clause-settles c =
    sync_settles_on_ok c.sync_in_turn.result c.args.self.now c.next_turn-turn.new.self c.sync_in_turn.new.self _ c.next_turn-turn.ensures.after c.sync_in_turn.ensures.answer c.sync_in_turn.ensures.after

pub returns-clause-stays : goal.returns-clause-stays
returns-clause-stays c =
    sync_stays_on_err c.sync_in_turn.result c.args.self.now c.next_turn-turn.new.self c.sync_in_turn.new.self _ c.next_turn-turn.ensures.after c.sync_in_turn.ensures.answer c.sync_in_turn.ensures.after
