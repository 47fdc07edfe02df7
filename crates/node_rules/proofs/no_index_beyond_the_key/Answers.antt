use Rattle.node_rules.proofs.OwnKey.{within-life}
use Rattle.node_rules.proofs.no_index_beyond_the_key.Goals as goal

pub returns : goal.returns
returns c = within-life
