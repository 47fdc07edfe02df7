use Rattle.std.proofs.Common.{subst, sym}
use Rattle.node_rules.specs.Deliveries.{gives}
use Rattle.node_rules.specs.Pages.{lacking}
use Rattle.audit_node.specs.Playing.{Grows, Kept, Plays}
use Rattle.audit_node.specs.contracts.Mirror.{the_view}
use Rattle.audit_node.proofs.PlayLemmas.{plays-refused}
use Rattle.audit_node.proofs.ExchangeLemmas.{given-at}
use Rattle.audit_node.proofs.Mirror.give_lacking.Goals as goal

pub returns-in-Ok-clause-plays : goal.returns-in-Ok-clause-plays
returns-in-Ok-clause-plays c = λ s es call p.
    let v : Kept = the_view c.self.inside in
    given-at s es v c.send_some.new.self call c.args.to c.args.theirs.now c.in-Ok.items.items
    (subst (λ v. Plays s es v call) (sym c.self.view_is) p)
    (subst (λ (w : Kept). Grows w c.send_some.new.self) (sym c.self.view_is) c.send_some.ensures.grows)
    c.in-Ok.ensures (λ rs are can. c.send_some.ensures.plays s es call rs p are can)

pub returns-in-Err-clause-plays : goal.returns-in-Err-clause-plays
returns-in-Err-clause-plays c = λ s es call p.
    plays-refused s es (the_view c.self.inside) _ (gives s c.args.to (lacking call.node c.args.to c.args.theirs.now) call) c.fail.ensures
