use Rattle.node_rules.proofs.GoingOut.{accusations-go-out}
use Rattle.node_rules.proofs.own_accusations_go_out.Goals as goal

pub returns : goal.returns
returns c = accusations-go-out
