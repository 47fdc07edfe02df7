use Rattle.std.proofs.Common.{◌≡◌}
use Rattle.ports.specs.MemoryDisk.{called, written_by}
use Rattle.ports.proofs.TurnLemmas.{write_tears}
use Rattle.ports.proofs.memory_disk.MemoryDiskDisk.write_at.Goals as goal

pub returns-clause-tears : goal.returns-clause-tears
returns-clause-tears c =
    let turn = c.next_turn-turn.result in
    let is : c.write_in_turn.new.self ≡ written_by turn c.has_room-fitting.result c.args.place c.args.bytes.now (called turn c.args.self.now) =
    rw (← c.next_turn-turn.ensures.after) c.write_in_turn.ensures.after in
    write_tears c.write_in_turn.result c.args.self.now c.write_in_turn.new.self turn c.has_room-fitting.result c.args.place c.args.bytes.now c.write_in_turn.ensures.answer is
