use Rattle.detector.proofs.NonceLemmas.{learned-each, to-same}
use Rattle.detector.proofs.laws.learned_one_by_one.Goals as goal

pub returns-clause-all : goal.returns-clause-all
returns-clause-all c = learned-each

pub returns-clause-to : goal.returns-clause-to
returns-clause-to c = to-same
