use Rattle.node_rules.proofs.RingLemmas.{neighbours-are, accused-addressed}
use Rattle.node_rules.proofs.neighbours_are_successors.Goals as goal

pub returns-clause-all : goal.returns-clause-all
returns-clause-all c = neighbours-are

pub returns-clause-accused : goal.returns-clause-accused
returns-clause-accused c = accused-addressed
