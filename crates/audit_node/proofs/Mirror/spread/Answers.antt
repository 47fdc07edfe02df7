use Rattle.std.proofs.Common.{subst, sym}
use Rattle.node_rules.specs.Calls.{Call}
use Rattle.node_rules.specs.Ticking.{fresh, spreads_all}
use Rattle.audit_node.specs.Playing.{Kept, Plays}
use Rattle.audit_node.specs.contracts.Mirror.{the_view}
use Rattle.audit_node.proofs.SpreadLemmas.{cleared-plays, spreads-is}
use Rattle.audit_node.proofs.Mirror.spread.Goals as goal

pub returns-clause-plays : goal.returns-clause-plays
returns-clause-plays c = λ s es call p.
    let c1 : Call = spreads_all s (fresh call.node) call in
    let sent = subst (λ v. Plays s es v c1) (sym c.self.view_is) (c.send_news.ensures.plays s es call p) in
    let v : Kept = the_view c.self.inside in
    subst (Plays s es (record v { news = c.clear.new.self.items })) (sym (spreads-is s call))
    (cleared-plays s es v c1 c.clear.new.self.items c.clear.ensures.items sent)
