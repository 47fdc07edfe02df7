use Rattle.node_rules.proofs.OneExchange.{one-exchange, nothing-lacking}
use Rattle.node_rules.proofs.one_exchange_is_enough.Goals as goal

pub returns-clause-handed : goal.returns-clause-handed
returns-clause-handed c = one-exchange

pub returns-clause-nothing : goal.returns-clause-nothing
returns-clause-nothing c = nothing-lacking
