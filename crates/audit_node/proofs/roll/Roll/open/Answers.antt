use Rattle.audit_node.proofs.NotedLemmas.{notes-none}
use Rattle.audit_node.proofs.roll.Roll.open.Goals as goal

pub returns-clause-notes : goal.returns-clause-notes
returns-clause-notes c = notes-none c.in_ok-open.field-0 c.in_ok-open-3.field-0 c.in_ok-open.ensures.holds c.in_ok-open-3.ensures
