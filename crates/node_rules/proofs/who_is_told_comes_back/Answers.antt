use Rattle.node_rules.proofs.ComingBack.{told-last, comes-back, brings-back}
use Rattle.node_rules.proofs.who_is_told_comes_back.Goals as goal

pub returns-clause-asks : goal.returns-clause-asks
returns-clause-asks c = told-last

pub returns-clause-told : goal.returns-clause-told
returns-clause-told c = comes-back

pub returns-clause-back : goal.returns-clause-back
returns-clause-back c = brings-back
