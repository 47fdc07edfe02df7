use Rattle.node_rules.proofs.Handling.{unread, bad-delivered}
use Rattle.node_rules.proofs.bad_forms_are_told.Goals as goal

pub returns : goal.returns
returns c = λ s n bytes. (unread s n bytes, bad-delivered s n bytes)
