use Rattle.turn_laws.proofs.ShowingLemmas.{given-accusations-shown, signed-shown}
use Rattle.turn_laws.proofs.own_accusations_are_shown.Goals as goal

pub returns-clause-signed : goal.returns-clause-signed
returns-clause-signed c = signed-shown

pub returns-clause-given : goal.returns-clause-given
returns-clause-given c = given-accusations-shown
