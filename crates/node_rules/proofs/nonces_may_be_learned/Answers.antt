use Rattle.node_rules.proofs.LearnedLives.{begins-learned, goes-on_learned, has-source, lives-give_all}
use Rattle.node_rules.proofs.nonces_may_be_learned.Goals as goal

pub returns-clause-begins : goal.returns-clause-begins
returns-clause-begins c = begins-learned

pub returns-clause-goes_on : goal.returns-clause-goes_on
returns-clause-goes_on c = goes-on_learned

pub returns-clause-one : goal.returns-clause-one
returns-clause-one c = has-source

pub returns-clause-own : goal.returns-clause-own
returns-clause-own c = lives-give_all
