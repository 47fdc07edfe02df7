use Rattle.std.proofs.Common.{subst, sym}
use Rattle.audit_node.specs.Playing.{Plays}
use Rattle.audit_node.specs.contracts.Mirror.{the_view}
use Rattle.audit_node.proofs.PlayLemmas.{tells-plays}
use Rattle.audit_node.proofs.Mirror.tell.Goals as goal

pub returns-clause-plays : goal.returns-clause-plays
returns-clause-plays c = λ s es call p.
    tells-plays s es (the_view c.self.inside) call c.args.what c.now.result c.tell.new.self (subst (λ v. Plays s es v call) (sym c.self.view_is) p) c.now.ensures.moment c.requires c.tell.ensures
