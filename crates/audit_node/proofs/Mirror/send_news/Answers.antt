use Rattle.std.proofs.Common.{ap, List, length, map, subst, sym, ◌∙◌, ◌<◌}
use Rattle.ff_ids.specs.declared.summary.RecordKey.{RecordKey}
use Rattle.node_rules.specs.Ticking.{fresh, spreads_all}
use Rattle.audit_node.specs.declared.owing.Item.{Item}
use Rattle.audit_node.specs.Owing.{item_of}
use Rattle.audit_node.specs.Sendable.{AreSendable}
use Rattle.audit_node.specs.Exchanging.{items_of}
use Rattle.audit_node.specs.Playing.{Grows, Kept, Plays}
use Rattle.audit_node.specs.contracts.Mirror.{the_view}
use Rattle.audit_node.proofs.PlayLemmas.{plays-refused}
use Rattle.audit_node.proofs.SpreadLemmas.{spread-given}
use Rattle.audit_node.proofs.Mirror.send_news.Goals as goal

pub returns-in-Ok-clause-plays : goal.returns-in-Ok-clause-plays
returns-in-Ok-clause-plays c = λ s es call p.
    let v : Kept = the_view c.self.inside in
    spread-given s es v c.send_any.new.self call c.in-Ok.items.items
    (subst (λ v. Plays s es v call) (sym c.self.view_is) p)
    (subst (λ (w : Kept). Grows w c.send_any.new.self) (sym c.self.view_is) c.send_any.ensures.grows)
    (c.in-Ok.ensures ∙ ap (λ (ks : List RecordKey). items_of v.records ks) c.deref.ensures.value)
    (λ rs are can. c.send_any.ensures.plays s es call rs p (ap (map (item_of s)) c.deref-in-Ok.ensures.value ∙ are)
    (subst (λ (xs : List Item). 0 < length xs → AreSendable s xs) (sym c.deref-in-Ok.ensures.value) can))

pub returns-in-Err-clause-plays : goal.returns-in-Err-clause-plays
returns-in-Err-clause-plays c = λ s es call p.
    plays-refused s es (the_view c.self.inside) _ (spreads_all s (fresh call.node) call) c.fail.ensures
