use Rattle.std.proofs.Common.{◌∷◌, ◌++◌, [], Result, ap, sym, ◌∙◌, subst}
use Rattle.std.specs.Prelude.{codes}
use Rattle.std.specs.Result.{result_err}
use Rattle.std.proofs.lemmas.Result.{on_ok_weaker}
use Rattle.ff_ids.specs.declared.Fault.{Fault}
use Rattle.ff_ids.specs.Faults.{accusation_fault}
use Rattle.membership.specs.Reports.{Answers}
use Rattle.trace.specs.Answers.{state_of, verdict_on}
use Rattle.replay.proofs.EventLemmas.{tells-accused}
use Rattle.replay.proofs.life.Life.take_accusation.Goals as goal

pub returns-in-Ok : goal.returns-in-Ok
returns-in-Ok c = λ r plays.
    let s = state_of r in
    let put = c.put_accusation.ensures in
    let old = c.args.text.now.items in
    let answered : Answers (accusation_fault r.group.t s c.args.accusation) c.put_accusation.result =
    subst (λ g. Answers (accusation_fault g.t s c.args.accusation) c.put_accusation.result) plays.group (put.fault s plays.holds) in
    let told = ap (λ (a : Result (Unit {0}) Fault). old ++ codes " : " ++ verdict_on (result_err a) ++ 10 ∷ []) (sym c.in-Ok.is) in
    on_ok_weaker c.add_verdict_on.result
    (λ text. tells-accused c.args.self.now r c.args.accusation c.put_accusation.result c.put_accusation.new.membership old _ plays answered (put.step s plays.holds) put.same put.group (text ∙ told))
    c.add_verdict_on.ensures

pub returns-in-Err : goal.returns-in-Err
returns-in-Err c = λ r plays.
    let s = state_of r in
    let put = c.put_accusation.ensures in
    let old = c.args.text.now.items in
    let answered : Answers (accusation_fault r.group.t s c.args.accusation) c.put_accusation.result =
    subst (λ g. Answers (accusation_fault g.t s c.args.accusation) c.put_accusation.result) plays.group (put.fault s plays.holds) in
    let told = ap (λ (a : Result (Unit {0}) Fault). old ++ codes " : " ++ verdict_on (result_err a) ++ 10 ∷ []) (sym c.in-Err.is) in
    on_ok_weaker c.add_verdict_on-in-Err.result
    (λ text. tells-accused c.args.self.now r c.args.accusation c.put_accusation.result c.put_accusation.new.membership old _ plays answered (put.step s plays.holds) put.same put.group (text ∙ told))
    c.add_verdict_on-in-Err.ensures
