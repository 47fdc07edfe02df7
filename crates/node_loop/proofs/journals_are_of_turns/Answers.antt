use Rattle.node_loop.proofs.JournalLemmas.{of-turns}
use Rattle.node_loop.proofs.journals_are_of_turns.Goals as goal

pub returns : goal.returns
returns c = of-turns
