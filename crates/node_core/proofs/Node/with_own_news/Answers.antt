use Rattle.std.proofs.Common.{subst}
use Rattle.ff_ids.specs.declared.summary.RecordKey.TheVariants as keys
use Rattle.node_core.specs.News.{with_fresh}
use Rattle.node_core.specs.Playing.{Kept, Plays}
use Rattle.node_core.proofs.Node.with_own_news.Goals as goal

pub returns-clause-plays : goal.returns-clause-plays
returns-clause-plays c = λ s es os call p.
    subst (λ (v : Kept). Plays s es os c.add_news.new.self (with_fresh s (keys.Note v.me) call)) c.self.view_is (c.add_news.ensures.plays s es os call p)
