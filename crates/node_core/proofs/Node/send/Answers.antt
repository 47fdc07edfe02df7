use Rattle.std.proofs.Common.{subst, sym}
use Rattle.node_core.specs.Playing.{Plays}
use Rattle.node_core.specs.contracts.Node.{the_view}
use Rattle.node_core.proofs.PlayLemmas.{sends-plays}
use Rattle.std.proofs.Common.{ap, ◌∙◌}
use Rattle.node_core.specs.Playing.{Kept}
use Rattle.node_core.specs.Spending.{spent_told}
use Rattle.node_core.proofs.SpendLemmas.{sent-none}
use Rattle.node_core.proofs.Node.send.Goals as goal

pub returns-clause-plays : goal.returns-clause-plays
returns-clause-plays c = λ s es os call d p spelled.
    sends-plays s es os (the_view c.self.inside) call d c.args.to c.now.result c.args.bytes.items c.send.new.self (subst (λ v. Plays s es os v call) (sym c.self.view_is) p) spelled c.now.ensures.moment c.send.ensures

pub returns-clause-signs_nothing : goal.returns-clause-signs_nothing
returns-clause-signs_nothing c = record {
  signer = ap (λ (v : Kept). v.signer) c.self.view_is;
  told_none = sent-none c.now.result c.args.bytes.items c.args.to c.self.inside.telling c.send.new.self c.send.ensures ∙ ap (λ (v : Kept). spent_told v.telling.events) c.self.view_is;
}
