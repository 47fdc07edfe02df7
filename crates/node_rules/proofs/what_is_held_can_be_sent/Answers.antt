use Rattle.node_rules.proofs.OneExchange.{sendable}
use Rattle.node_rules.proofs.what_is_held_can_be_sent.Goals as goal

pub returns : goal.returns
returns c = sendable
