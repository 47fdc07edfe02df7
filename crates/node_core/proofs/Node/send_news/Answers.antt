use Rattle.std.proofs.Common.{◌≡◌, List, [], subst, sym, ◌∙◌}
use Rattle.ff_ids.specs.declared.summary.RecordKey.{RecordKey}
use Rattle.node_rules.specs.Ticking.{fresh, spreads_all}
use Rattle.node_core.specs.Exchanging.{given_of, IsGiven, IsGivenOf}
use Rattle.node_core.specs.Playing.{Kept, Plays, Grows}
use Rattle.node_core.specs.contracts.Node.{the_view}
use Rattle.node_core.proofs.SpreadLemmas.{spread-some, spread-none}
use Rattle.node_core.proofs.ExtendLemmas.{extends-spreads_all}
use Rattle.node_core.proofs.DueLemmas.{plays-refused}
use Rattle.node_core.proofs.Node.send_news.Goals as goal

pub returns-in-Ok-Some-clause-plays : goal.returns-in-Ok-Some-clause-plays
returns-in-Ok-Some-clause-plays c = λ s es os call p.
    let v : Kept = the_view c.self.inside in
    let given = subst (λ o. IsGivenOf v.me v.records c.deref.result.now o) c.in-Ok-Some.field-0-is c.in-Ok-Some.ensures in
    spread-some s es os v c.send_to_neighbours.new.self call c.in-Ok-Some.bytes.items
    (subst (λ v. Plays s es os v call) (sym c.self.view_is) p)
    (subst (λ (w : Kept). Grows w c.send_to_neighbours.new.self) (sym c.self.view_is) c.send_to_neighbours.ensures.grows)
    (subst (λ (ks : List RecordKey). IsGiven v.me v.records ks c.in-Ok-Some.bytes.items) c.deref.ensures.value given)
    (λ d e. c.send_to_neighbours.ensures.plays s es os call d p (c.deref-in-Ok-Some.ensures.value ∙ e))

pub returns-in-Ok-None-clause-plays : goal.returns-in-Ok-None-clause-plays
returns-in-Ok-None-clause-plays c = λ s es os call p.
    let v : Kept = the_view c.self.inside in
    let none = subst (λ o. IsGivenOf v.me v.records c.deref.result.now o) c.in-Ok-None.field-0-is c.in-Ok-None.ensures in
    subst (λ v. Plays s es os v (spreads_all s (fresh call.node) call)) c.self.view_is
    (spread-none s es os v call (subst (λ v. Plays s es os v call) (sym c.self.view_is) p) (subst (λ (ks : List RecordKey). given_of v.records ks ≡ []) c.deref.ensures.value none))

pub returns-in-Err-clause-plays : goal.returns-in-Err-clause-plays
returns-in-Err-clause-plays c = λ s es os call p.
    plays-refused s es os (the_view c.self.inside) _ call (spreads_all s (fresh call.node) call) c.fail.ensures
    (subst (λ v. Plays s es os v call) (sym c.self.view_is) p) (extends-spreads_all s (fresh call.node) call)
