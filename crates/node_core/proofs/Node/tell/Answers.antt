use Rattle.std.proofs.Common.{ap, sym, subst, ◌∙◌}
use Rattle.node_core.specs.Playing.{Kept, Plays}
use Rattle.node_core.specs.Spending.{spent_told}
use Rattle.node_core.proofs.SpendLemmas.{event-none}
use Rattle.node_core.specs.contracts.Node.{the_view}
use Rattle.node_core.proofs.PlayLemmas.{tells-plays}
use Rattle.node_core.proofs.Node.tell.Goals as goal

pub returns-clause-signs_nothing : goal.returns-clause-signs_nothing
returns-clause-signs_nothing c = record {
  signer = ap (λ (v : Kept). v.signer) c.self.view_is;
  told_none = event-none c.now.result c.args.what c.self.inside.telling c.tell.new.self c.tell.ensures.adds c.requires.unsigned ∙ ap (λ (v : Kept). spent_told v.telling.events) c.self.view_is;
}

pub returns-clause-plays : goal.returns-clause-plays
returns-clause-plays c = λ s es os call p.
    tells-plays s es os (the_view c.self.inside) call c.args.what c.now.result c.tell.new.self (subst (λ v. Plays s es os v call) (sym c.self.view_is) p) c.now.ensures.moment c.tell.ensures.adds
