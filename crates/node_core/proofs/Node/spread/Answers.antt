use Rattle.std.proofs.Common.{subst, sym}
use Rattle.node_rules.specs.Calls.{Call}
use Rattle.node_rules.specs.Ticking.{fresh, spreads_all}
use Rattle.node_core.specs.Playing.{Kept, Plays}
use Rattle.node_core.specs.contracts.Node.{the_view}
use Rattle.node_core.proofs.SpreadLemmas.{cleared-plays, spreads-is}
use Rattle.node_core.proofs.Node.spread.Goals as goal

pub returns-clause-plays : goal.returns-clause-plays
returns-clause-plays c = λ s es os call p.
    let c1 : Call = spreads_all s (fresh call.node) call in
    let sent = subst (λ v. Plays s es os v c1) (sym c.self.view_is) (c.send_news.ensures.plays s es os call p) in
    let v : Kept = the_view c.self.inside in
    subst (Plays s es os (record v { news = c.clear.new.self.items })) (sym (spreads-is s call))
    (cleared-plays s es os v c1 c.clear.new.self.items c.clear.ensures.items sent)
