use Rattle.node_rules.proofs.Witnesses.{vouched-life}
use Rattle.node_rules.proofs.lives_are_vouched_for.Goals as goal

pub returns : goal.returns
returns c = λ s own nonces certificates stored inputs rings kit good sign left.
    vouched-life s own nonces certificates stored inputs rings.some kit.all kit.own good sign left
