use Rattle.std.proofs.Common.{length, ap, sym, ◌∙◌}
use Rattle.records.specs.Spelling.{body_bytes}
use Rattle.record_slots.proofs.LengthLemmas.{accusation_long}
use Rattle.record_slots.proofs.lengths.body_length.Goals as goal

pub returns-in-Certificate-clause-value : goal.returns-in-Certificate-clause-value
returns-in-Certificate-clause-value c = c.certificate_length.ensures.value ∙ sym (ap (λ b. length (body_bytes b)) c.in-Certificate.is)

pub returns-in-Note-clause-value : goal.returns-in-Note-clause-value
returns-in-Note-clause-value c = c.note_length.ensures.value ∙ sym (ap (λ b. length (body_bytes b)) c.in-Note.is)

pub returns-in-Accusation-clause-value : goal.returns-in-Accusation-clause-value
returns-in-Accusation-clause-value c = sym (ap (λ b. length (body_bytes b)) c.in-Accusation.is ∙ accusation_long c.in-Accusation.field-0)
