use Rattle.node_rules.proofs.Sources.{source-started, source-delivered, source-left, source-ticked}
use Rattle.node_rules.proofs.LearnedLives.{draws}
use Rattle.node_rules.proofs.sources_give_nonces_alone.Goals as goal

pub returns-clause-start : goal.returns-clause-start
returns-clause-start c = source-started

pub returns-clause-delivery : goal.returns-clause-delivery
returns-clause-delivery c = source-delivered

pub returns-clause-leaving : goal.returns-clause-leaving
returns-clause-leaving c = source-left

pub returns-clause-tick : goal.returns-clause-tick
returns-clause-tick c = source-ticked

pub returns-clause-drawn : goal.returns-clause-drawn
returns-clause-drawn c = draws
