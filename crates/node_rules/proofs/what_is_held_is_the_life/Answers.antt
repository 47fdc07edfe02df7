use Rattle.node_rules.proofs.Accusers.{holds-life}
use Rattle.node_rules.proofs.what_is_held_is_the_life.Goals as goal

pub returns : goal.returns
returns c = holds-life
