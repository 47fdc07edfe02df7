use Rattle.std.proofs.Common.{subst, sym}
use Rattle.node_rules.specs.Pages.{lacking}
use Rattle.node_rules.specs.Deliveries.{gives}
use Rattle.node_core.specs.Exchanging.{IsLacking}
use Rattle.node_core.specs.Playing.{Kept, Plays, Grows}
use Rattle.node_core.specs.contracts.Node.{the_view}
use Rattle.node_core.proofs.ExchangeLemmas.{given-at, nothing-at}
use Rattle.node_core.proofs.ExtendLemmas.{extends-gives}
use Rattle.node_core.proofs.DueLemmas.{plays-refused}
use Rattle.node_core.proofs.Node.give_lacking.Goals as goal

pub returns-in-Ok-Some-clause-plays : goal.returns-in-Ok-Some-clause-plays
returns-in-Ok-Some-clause-plays c = λ s es os call p.
    let v : Kept = the_view c.self.inside in
    let p0 = subst (λ v. Plays s es os v call) (sym c.self.view_is) p in
    let given = subst (λ o. IsLacking c.self.inside.me c.self.inside.records c.args.to c.args.theirs.now o) c.in-Ok-Some.field-0-is c.in-Ok-Some.ensures in
    given-at s es os v c.send.new.self call c.args.to c.args.theirs.now c.in-Ok-Some.bytes.items p0 (subst (λ (w : Kept). Grows w c.send.new.self) (sym c.self.view_is) c.send.ensures.grows) given
    (λ d e. c.send.ensures.plays s es os call d p e)

pub returns-in-Ok-None-clause-plays : goal.returns-in-Ok-None-clause-plays
returns-in-Ok-None-clause-plays c = λ s es os call p.
    let v : Kept = the_view c.self.inside in
    let p0 = subst (λ v. Plays s es os v call) (sym c.self.view_is) p in
    let none = subst (λ o. IsLacking c.self.inside.me c.self.inside.records c.args.to c.args.theirs.now o) c.in-Ok-None.field-0-is c.in-Ok-None.ensures in
    subst (λ v. Plays s es os v (gives s c.args.to (lacking call.node c.args.to c.args.theirs.now) call)) c.self.view_is (nothing-at s es os v call c.args.to c.args.theirs.now p0 none)

pub returns-in-Err-clause-plays : goal.returns-in-Err-clause-plays
returns-in-Err-clause-plays c = λ s es os call p.
    let given = lacking call.node c.args.to c.args.theirs.now in
    plays-refused s es os (the_view c.self.inside) _ call (gives s c.args.to given call) c.fail.ensures (subst (λ v. Plays s es os v call) (sym c.self.view_is) p) (extends-gives s c.args.to given call)
