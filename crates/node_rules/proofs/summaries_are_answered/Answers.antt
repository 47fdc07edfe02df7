use Rattle.node_rules.proofs.Sendable.{summary-answered}
use Rattle.node_rules.proofs.summaries_are_answered.Goals as goal

pub returns : goal.returns
returns c = summary-answered
