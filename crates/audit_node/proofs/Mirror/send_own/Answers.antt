use Rattle.std.proofs.Common.{[], ◌∷◌, ap, map, subst, sym, ◌∙◌}
use Rattle.records.specs.declared.Record.{Record}
use Rattle.datagram.specs.declared.Datagram.TheVariants as kinds
use Rattle.node_rules.specs.Nodes.{state_of}
use Rattle.node_rules.specs.Calls.{sends_to_all}
use Rattle.audit_node.specs.Neighbours.{addressees}
use Rattle.audit_node.specs.Owing.{item_of}
use Rattle.audit_node.specs.Sendable.{AreSendable}
use Rattle.audit_node.specs.contracts.Mirror.{the_view}
use Rattle.audit_node.proofs.PlayLemmas.{plays-refused}
use Rattle.audit_node.proofs.SendableLemmas.{own-sendable}
use Rattle.audit_node.proofs.Mirror.send_own.Goals as goal

pub returns-in-Ok-clause-plays : goal.returns-in-Ok-clause-plays
returns-in-Ok-clause-plays c = λ s es call long own p.
    let r : Record = record { body = c.args.body; signature = s.signature c.args.index c.args.body } in
    let items = c.deref.ensures.value ∙ c.in-Ok.ensures in
    c.send_to_neighbours.ensures.plays s es call (r ∷ []) p (ap (map (item_of s)) items)
    (subst (AreSendable s) (sym items) (own-sendable s (record { index = c.args.index; body = c.args.body; length = long }) own))

pub returns-in-Err-clause-plays : goal.returns-in-Err-clause-plays
returns-in-Err-clause-plays c = λ s es call long own p.
    let r : Record = record { body = c.args.body; signature = s.signature c.args.index c.args.body } in
    plays-refused s es (the_view c.self.inside) _ (sends_to_all s (addressees s c.args.also (state_of s call.node)) (kinds.Records s.me (r ∷ [])) call) c.fail.ensures
