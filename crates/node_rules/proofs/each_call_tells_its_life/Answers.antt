use Rattle.node_rules.proofs.Telling.{called-tells}
use Rattle.node_rules.proofs.each_call_tells_its_life.Goals as goal

pub returns : goal.returns
returns c = called-tells
