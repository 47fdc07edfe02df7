use Rattle.line_text.proofs.WordLemmas.{NoSpace}
use Rattle.line_text.proofs.words.first_space.Given as goal

abbrev pub invariant-loop-at : goal.invariant-loop-at
invariant-loop-at l = NoSpace l.text l.at
