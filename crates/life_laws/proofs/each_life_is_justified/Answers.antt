use Rattle.life_laws.proofs.JustifiedLemmas.{justified}
use Rattle.life_laws.proofs.each_life_is_justified.Goals as goal

pub returns : goal.returns
returns c = justified
