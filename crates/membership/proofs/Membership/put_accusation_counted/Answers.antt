use Rattle.std.proofs.Common.{◌∙◌, ◌+◌, ◌-◌, ◌*◌, ◌^◌, ◌≤◌, sym, subst}
use Rattle.ff_ids.specs.Steps.{after_accusation}
use Rattle.membership.specs.Life.{Life}
use Rattle.membership.specs.Holds.{Holds}
use Rattle.membership.proofs.HoldLemmas.{each_held, live_count-each, answers-fault, answers-none}
use Rattle.membership.proofs.AccuseLemmas.{accusation_fault-held, Holds-accused}
use Rattle.membership.proofs.Membership.put_accusation_counted.Goals as goal

pub returns-in-Some-clause-fault : goal.returns-in-Some-clause-fault
returns-in-Some-clause-fault g c = λ s h.
    answers-fault _ _ c.in-Some.fault (accusation_fault-held c.args.self.now s c.args.acc h) (sym c.fault_of_accusation_counted.ensures.fault ∙ c.in-Some.is)

pub returns-clause-fault : goal.returns-clause-fault
returns-clause-fault g c = λ s h.
    answers-none _ _ (accusation_fault-held c.args.self.now s c.args.acc h) (sym c.fault_of_accusation_counted.ensures.fault ∙ c.in_default.is)

pub returns-clause-step : goal.returns-clause-step
returns-clause-step g c = λ s h.
    subst (λ (l : Life). Holds l (after_accusation s c.args.acc)) (sym c.keep.ensures) (Holds-accused c.args.self.now s c.args.acc h (sym c.fault_of_accusation_counted.ensures.fault ∙ c.in_default.is))

pub returns-in-Some-clause-most : goal.returns-in-Some-clause-most
returns-in-Some-clause-most g c = λ s h.
    subst (λ n. 2 ^ (c.fault_of_accusation_counted.new.steps - c.args.steps.now) ≤ 2 * n + 1) (live_count-each c.args.self.now s (each_held c.args.self.now s h)) c.fault_of_accusation_counted.ensures.most

pub returns-clause-most : goal.returns-clause-most
returns-clause-most g c = λ s h.
    subst (λ n. 2 ^ (c.fault_of_accusation_counted.new.steps - c.args.steps.now) ≤ 2 * n + 1) (live_count-each c.args.self.now s (each_held c.args.self.now s h)) c.fault_of_accusation_counted.ensures.most
