use Rattle.std.proofs.Common.{eq-eqb}
use Rattle.node_rules.proofs.OwnNote.{answer-fine}
use Rattle.node_rules.proofs.own_answers_are_accepted.Goals as goal

pub returns : goal.returns
returns c = λ s r a call rings own fine is who. answer-fine s r a call rings.some fine is (eq-eqb a.accused s.me who) own
