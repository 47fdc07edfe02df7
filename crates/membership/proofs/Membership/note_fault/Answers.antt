use Rattle.std.proofs.Common.{◌∙◌}
use Rattle.membership.proofs.HoldLemmas.{note_fault-held}
use Rattle.membership.proofs.Membership.note_fault.Goals as goal

pub returns-clause-value : goal.returns-clause-value
returns-clause-value c = λ s h. c.fault_of_note.ensures ∙ note_fault-held c.args.self.now s c.args.note.now h
