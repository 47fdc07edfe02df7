use Rattle.std.proofs.Common.{take}
use Rattle.journal.specs.declared.event.What.TheVariants as kinds
use Rattle.audit_node.specs.Told.{Adds, with_each}
use Rattle.audit_node.proofs.telling.CallOutput.tell_entered.Given as goal

abbrev pub invariant-loop-member : goal.invariant-loop-member
invariant-loop-member l = Adds (with_each l.fn.moment kinds.Entered (take l.member-index l.list)) l.initial.self l.self
