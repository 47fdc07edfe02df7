use Rattle.std.proofs.Common.{[]}
use Rattle.ff_ids.specs.Lives.{opening}
use Rattle.life_laws.proofs.AnsweredLemmas.{none_accepted, none_expires}
use Rattle.life_laws.proofs.SinceLemmas.{revokes}
use Rattle.node_rules.proofs.answers_hold_in_lives.Goals as goal

pub returns-clause-older : goal.returns-clause-older
returns-clause-older c = λ s n i j note a earlier accepted older.
    (none_accepted s.group (opening []) n.lived i j note a earlier accepted older, none_expires s.group (opening []) n.lived i j note a earlier accepted older)

pub returns-clause-answered : goal.returns-clause-answered
returns-clause-answered c = λ s n. revokes s.group [] n.lived
