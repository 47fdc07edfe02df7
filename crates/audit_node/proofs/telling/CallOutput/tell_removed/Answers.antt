use Rattle.journal.specs.declared.event.What.TheVariants as kinds
use Rattle.audit_node.proofs.TellingLemmas.{each-more}
use Rattle.audit_node.proofs.telling.CallOutput.tell_removed.Goals as goal

pub loop-member-preserved : goal.loop-member-preserved
loop-member-preserved c =
    each-more c.args.moment kinds.Removed c.args.list.now c.loop-member.member-index c.member-item.result c.args.self.now c.loop-member.self c.tell.new.self c.loop-member-test.true c.member-item.is c.loop-member.invariant c.tell.ensures
