use Rattle.std.proofs.Common.{[]}
use Rattle.life_laws.proofs.JustifiedLemmas.{justified}
use Rattle.node_rules.proofs.each_life_is_justified.Goals as goal

pub returns : goal.returns
returns c = λ s n. justified s.group [] n.lived
