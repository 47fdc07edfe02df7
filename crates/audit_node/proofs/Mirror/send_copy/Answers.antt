use Rattle.std.proofs.Common.{ap, map, subst, sym, ◌∙◌}
use Rattle.datagram.specs.declared.Datagram.TheVariants as kinds
use Rattle.node_rules.specs.Calls.{sends}
use Rattle.audit_node.specs.Owing.{item_of}
use Rattle.audit_node.specs.Sendable.{AreSendable}
use Rattle.audit_node.specs.contracts.Mirror.{the_view}
use Rattle.audit_node.proofs.PlayLemmas.{plays-refused}
use Rattle.audit_node.proofs.Mirror.send_copy.Goals as goal

pub returns-in-Ok-clause-plays : goal.returns-in-Ok-clause-plays
returns-in-Ok-clause-plays c = λ s es call rs p are can.
    c.send_items.ensures.plays s es call rs p (ap (map (item_of s)) c.in-Ok.ensures ∙ are) (subst (AreSendable s) (sym c.in-Ok.ensures) can)

pub returns-in-Err-clause-plays : goal.returns-in-Err-clause-plays
returns-in-Err-clause-plays c = λ s es call rs p are can.
    plays-refused s es (the_view c.self.inside) _ (sends s (kinds.Records s.me rs) call c.args.to) c.fail.ensures
