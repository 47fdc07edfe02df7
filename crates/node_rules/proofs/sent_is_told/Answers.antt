use Rattle.node_rules.proofs.Sendings.{called-sendings}
use Rattle.node_rules.proofs.sent_is_told.Goals as goal

pub returns : goal.returns
returns c = called-sendings
