use Rattle.link_queues.proofs.RunLemmas as laws
use Rattle.link_queues.proofs.hands_on_what_came.Goals as goal

pub returns : goal.returns
returns c = laws.hands-on-what-came
