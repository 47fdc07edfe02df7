use Rattle.link_queues.proofs.CountLemmas as laws
use Rattle.link_queues.proofs.counts_what_is_lost.Goals as goal

pub returns : goal.returns
returns c = laws.counts-what-is-lost
