use Rattle.node_rules.proofs.Spans.{epochs-bounded}
use Rattle.node_rules.proofs.epochs_are_bounded.Goals as goal

pub returns : goal.returns
returns c = epochs-bounded
