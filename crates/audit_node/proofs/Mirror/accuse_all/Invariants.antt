use Rattle.audit_node.specs.Handled.{Accused}
use Rattle.audit_node.proofs.Mirror.accuse_all.Given as goal

abbrev pub invariant-loop-member : goal.invariant-loop-member
invariant-loop-member l = Accused l.initial.self l.self l.fn.silent.items l.member-iterator.rest.items
