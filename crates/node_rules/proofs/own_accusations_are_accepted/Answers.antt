use Rattle.node_rules.proofs.Accusations.{own-accepted}
use Rattle.node_rules.proofs.own_accusations_are_accepted.Goals as goal

pub returns : goal.returns
returns c = own-accepted
