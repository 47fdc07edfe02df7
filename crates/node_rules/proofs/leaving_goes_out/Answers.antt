use Rattle.node_rules.proofs.Leaving.{leaving-sends, leaving-tells}
use Rattle.node_rules.proofs.leaving_goes_out.Goals as goal

pub returns-clause-sent : goal.returns-clause-sent
returns-clause-sent c = leaving-sends

pub returns-clause-told : goal.returns-clause-told
returns-clause-told c = leaving-tells
