use Rattle.std.proofs.Common.{ap, sym, subst}
use Rattle.std.specs.Prelude.{[], ◌∷◌}
use Rattle.node_core.specs.Playing.{Kept, Plays}
use Rattle.node_core.specs.Spending.{TellsOf}
use Rattle.node_core.proofs.SpendLemmas.{event-spent}
use Rattle.node_core.specs.contracts.Node.{the_view}
use Rattle.node_core.proofs.PlayLemmas.{tells-plays}
use Rattle.journal.specs.declared.event.What.TheVariants as told
use Rattle.node_core.proofs.Node.tell_spent.Goals as goal

pub returns-clause-spent : goal.returns-clause-spent
returns-clause-spent c = record {
  signer = ap (λ (v : Kept). v.signer) c.self.view_is;
  tells = subst (λ (v : Kept). TellsOf (record { index = c.args.index; body = c.args.body } ∷ []) v.telling.events c.tell_spent.new.self.events c.tell_spent.new.self.failed) c.self.view_is
      (event-spent c.now.result c.args.index c.args.body c.self.inside.telling c.tell_spent.new.self c.tell_spent.ensures);
}

pub returns-clause-plays : goal.returns-clause-plays
returns-clause-plays c = λ s es os call p.
    tells-plays s es os (the_view c.self.inside) call (told.Spent c.args.index c.args.body) c.now.result c.tell_spent.new.self (subst (λ v. Plays s es os v call) (sym c.self.view_is) p) c.now.ensures.moment c.tell_spent.ensures
