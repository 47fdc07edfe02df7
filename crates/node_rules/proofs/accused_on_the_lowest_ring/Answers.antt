use Rattle.node_rules.proofs.RingLemmas.{ring-lowest, ring-none}
use Rattle.node_rules.proofs.accused_on_the_lowest_ring.Goals as goal

pub returns : goal.returns
returns c = λ s st m. (ring-lowest s st m, ring-none s st m)
