use Rattle.std.proofs.Common.{rules, ◌≡◌, subst, sym, ◌∙◌}
use Rattle.node_core.specs.Playing.{Plays}
use Rattle.node_core.specs.contracts.Node.{the_view}
use Rattle.node_rules.specs.Calls.{sends}
use Rattle.node_core.proofs.ExtendLemmas.{extends-sends}
use Rattle.node_core.proofs.DueLemmas.{plays-refused}
use Rattle.node_core.proofs.Node.send_copy.Goals as goal

pub returns-in-Ok-clause-plays : goal.returns-in-Ok-clause-plays
returns-in-Ok-clause-plays c = λ s es os call d p spelled.
    let same : c.in-Ok.copy.items ≡ c.args.bytes.now = search rules in
    c.send.ensures.plays s es os call d p (same ∙ spelled)

pub returns-in-Err-clause-plays : goal.returns-in-Err-clause-plays
returns-in-Err-clause-plays c = λ s es os call d p spelled.
    plays-refused s es os (the_view c.self.inside) _ call (sends s d call c.args.to) c.fail.ensures (subst (λ v. Plays s es os v call) (sym c.self.view_is) p) (extends-sends s d call c.args.to)
