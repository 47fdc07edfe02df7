use Rattle.std.proofs.Common.{List, All, subst, sym, ap, ◌∙◌, Vec}
use Rattle.std.specs.Global.{Global}
use Rattle.std.proofs.lemmas.List.Elements.{All-push}
use Rattle.std.specs.Prelude.{IsSome}
use Rattle.ff_ids.specs.declared.summary.RecordKey.{RecordKey}
use Rattle.record_slots.specs.Held.{held_under}
use Rattle.record_slots.specs.Picks.{held_all}
use Rattle.audit_node.proofs.GivenLemmas.{held-one, held-none, has-record}
use Rattle.audit_node.proofs.exchange.held_keys.Goals.{then-contains+in_ok-push, else-contains}
use Rattle.audit_node.proofs.exchange.held_keys.Goals as goal

pub loop-key-preserved : goal.loop-key-preserved
loop-key-preserved c =
    let set = c.args.records.now in
    let ks : List RecordKey = c.args.keys.now in
    let k : RecordKey = c.key-item.result in
    let items : Vec RecordKey Global → List RecordKey = λ v. v.items in
    let has = λ (held : List RecordKey). All (λ k. IsSome (held_under set k)) held in
    elim c.if-contains.branch [
      | then-contains+in_ok-push w ↦
          let more = ap items w.held-is ∙ w.in_ok-push.ensures.items in
          record {
            all = subst has (sym more) (All-push (λ k. IsSome (held_under set k)) c.loop-key.held.items k c.loop-key.invariant.all (has-record set k (sym w.if-contains.ensures)));
            same = ap (held_all set) more
                ∙ held-one set ks c.loop-key.held.items c.loop-key.key-index k c.loop-key-test.true c.key-item.is c.loop-key.invariant.same;
          }
      | else-contains w ↦
          let same = ap items w.held-is in
          record {
            all = subst has (sym same) c.loop-key.invariant.all;
            same = ap (held_all set) same
                ∙ held-none set ks c.loop-key.held.items c.loop-key.key-index k c.loop-key-test.true c.key-item.is (sym w.if-contains.ensures) c.loop-key.invariant.same;
          }
    ]
