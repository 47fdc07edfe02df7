use Rattle.std.proofs.Common.{take}
use Rattle.journal.specs.declared.event.What.TheVariants as kinds
use Rattle.audit_node.specs.Told.{Adds, with_each}
use Rattle.audit_node.proofs.telling.CallOutput.tell_expired.Given as goal

abbrev pub invariant-loop-acc : goal.invariant-loop-acc
invariant-loop-acc l = Adds (with_each l.fn.moment kinds.Expired (take l.acc-index l.list)) l.initial.self l.self
