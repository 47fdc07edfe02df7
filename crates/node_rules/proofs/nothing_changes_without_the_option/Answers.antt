use Rattle.node_rules.proofs.Plain.{lives-plain}
use Rattle.node_rules.proofs.nothing_changes_without_the_option.Goals as goal

pub returns : goal.returns
returns c = lives-plain
