use Rattle.std.proofs.Common.{sym, arith}
use Rattle.record_slots.proofs.SlotLemmas.{unreached}
use Rattle.record_slots.proofs.layout.clear.Goals as goal

pub returns-else-slot-len-clause-items : goal.returns-else-slot-len-clause-items
returns-else-slot-len-clause-items g c = sym (unreached c.args.slots.now.items c.args.slot (omega arith))
