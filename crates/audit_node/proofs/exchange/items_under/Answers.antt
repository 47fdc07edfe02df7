use Rattle.std.proofs.Common.{rules, ◌≡◌, List, Some, None, Vec, ap, ◌∙◌}
use Rattle.std.specs.Global.{Global}
use Rattle.ff_ids.specs.declared.summary.RecordKey.{RecordKey}
use Rattle.record_slots.specs.Held.{held_under}
use Rattle.audit_node.specs.declared.owing.Item.{Item}
use Rattle.audit_node.proofs.GivenLemmas.{item-one, item-none}
use Rattle.audit_node.proofs.exchange.items_under.Goals.{in-Some+in_ok-item_known+in_ok-push, in_default}
use Rattle.audit_node.proofs.exchange.items_under.Goals as goal

pub loop-key-preserved : goal.loop-key-preserved
loop-key-preserved c =
    let set = c.args.records.now in
    let ks : List RecordKey = c.args.keys.now in
    let k : RecordKey = c.key-item.result in
    let items : Vec Item Global → List Item = λ v. v.items in
    elim c.match-get.branch [
      | in-Some+in_ok-item_known+in_ok-push w ↦
          let some : Some w.in-Some.known.now ≡ held_under set k = search rules in
          ap items w.items-is ∙ w.in_ok-push.ensures.items
          ∙ item-one set ks c.loop-key.items.items c.loop-key.key-index k w.in-Some.known.now w.in_ok-item_known.field-0 c.loop-key-test.true c.key-item.is some w.in_ok-item_known.ensures c.loop-key.invariant
      | in_default w ↦
          let none : None ≡ held_under set k = search rules in
          ap items w.items-is ∙ item-none set ks c.loop-key.items.items c.loop-key.key-index k c.loop-key-test.true c.key-item.is none c.loop-key.invariant
    ]
