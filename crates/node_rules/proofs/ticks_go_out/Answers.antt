use Rattle.node_rules.proofs.Ticks.{tick-sends, tick-tells}
use Rattle.node_rules.proofs.ticks_go_out.Goals as goal

pub returns-clause-sent : goal.returns-clause-sent
returns-clause-sent c = tick-sends

pub returns-clause-told : goal.returns-clause-told
returns-clause-told c = tick-tells
