use Rattle.journal.specs.declared.event.What.TheVariants as kinds
use Rattle.audit_node.proofs.TellingLemmas.{each-more}
use Rattle.audit_node.proofs.telling.CallOutput.tell_fell.Goals as goal

pub loop-acc-preserved : goal.loop-acc-preserved
loop-acc-preserved c =
    each-more c.args.moment kinds.Fell c.args.list.now c.loop-acc.acc-index c.acc-item.result c.args.self.now c.loop-acc.self c.tell.new.self c.loop-acc-test.true c.acc-item.is c.loop-acc.invariant c.tell.ensures
