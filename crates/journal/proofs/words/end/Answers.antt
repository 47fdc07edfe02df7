use Rattle.std.proofs.Common.{arith}
use Rattle.journal.proofs.words.end.Goals as goal

pub returns-in-None : goal.returns-in-None
returns-in-None c = c.in-None.ensures.word

pub returns-in-Some : goal.returns-in-Some
returns-in-Some c = (rw c.in-Some.ensures.word (omega arith), c.place-place.ensures)
