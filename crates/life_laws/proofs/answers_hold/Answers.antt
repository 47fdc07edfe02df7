use Rattle.life_laws.proofs.AnsweredLemmas.{none_accepted, none_expires}
use Rattle.life_laws.proofs.SinceLemmas.{revokes}
use Rattle.life_laws.proofs.answers_hold.Goals as goal

pub returns-clause-older : goal.returns-clause-older
returns-clause-older c = λ g s events i j n a low at older.
    (none_accepted g s events i j n a low at older, none_expires g s events i j n a low at older)

pub returns-clause-answered : goal.returns-clause-answered
returns-clause-answered c = revokes
