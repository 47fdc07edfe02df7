use Rattle.node_rules.proofs.Leaving.{leaving-accepted}
use Rattle.node_rules.proofs.own_leaving_is_accepted.Goals as goal

pub returns : goal.returns
returns c = leaving-accepted
