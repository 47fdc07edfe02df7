use Rattle.node_rules.proofs.Ticks.{only-silent}
use Rattle.node_rules.proofs.only_the_silent_are_accused.Goals as goal

pub returns : goal.returns
returns c = only-silent
