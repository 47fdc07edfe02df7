use Rattle.std.proofs.Common.{◌∙◌}
use Rattle.membership.proofs.AccuseLemmas.{accusation_fault-held}
use Rattle.membership.proofs.Membership.accusation_fault.Goals as goal

pub returns-clause-value : goal.returns-clause-value
returns-clause-value c = λ s h. c.fault_of_accusation.ensures ∙ accusation_fault-held c.args.self.now s c.args.acc.now h
