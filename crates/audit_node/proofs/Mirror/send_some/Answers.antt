use Rattle.std.proofs.Common.{rules, arith, ◌≡◌, ◌≢◌, [], length, sym, subst}
use Rattle.audit_node.specs.Owing.{item_of}
use Rattle.audit_node.specs.Playing.{Plays}
use Rattle.audit_node.proofs.ExchangeLemmas.{gives-some}
use Rattle.audit_node.proofs.SpreadLemmas.{no-items, some-items}
use Rattle.node_rules.specs.Deliveries.{gives}
use Rattle.audit_node.proofs.Mirror.send_some.Goals as goal

pub returns-then-not-is_empty-clause-plays : goal.returns-then-not-is_empty-clause-plays
returns-then-not-is_empty-clause-plays c = λ s es call rs p are can.
    let many : length c.args.items.items ≢ 0 = search rules in
    let some : rs ≢ [] = some-items (item_of s) c.args.items.items rs many are in
    subst (Plays s es c.send_items.new.self) (sym (gives-some s c.args.to rs call some)) (c.send_items.ensures.plays s es call rs p are (can (omega (arith, many))))

pub returns-else-not-is_empty-clause-plays : goal.returns-else-not-is_empty-clause-plays
returns-else-not-is_empty-clause-plays c = λ s es call rs p are can.
    let none : rs ≡ [] = no-items (item_of s) c.args.items.items rs (search rules) are in
    subst (λ xs. Plays s es c.args.self.now (gives s c.args.to xs call)) (sym none) p
