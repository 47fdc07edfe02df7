use Rattle.node_rules.specs.Nodes.{state_of}
use Rattle.node_rules.proofs.Accusations.{lively, keeps-from_accused, accused-from_kept}
use Rattle.node_rules.proofs.has_accused_is_kept.Goals as goal

pub returns : goal.returns
returns c = λ s n m. (keeps-from_accused s (state_of s n) m, accused-from_kept s (state_of s n) m (lively s n))
