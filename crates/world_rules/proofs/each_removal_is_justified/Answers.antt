use Rattle.world_rules.proofs.Telling.{lives-justified}
use Rattle.world_rules.proofs.each_removal_is_justified.Goals as goal

pub returns : goal.returns
returns c = lives-justified
