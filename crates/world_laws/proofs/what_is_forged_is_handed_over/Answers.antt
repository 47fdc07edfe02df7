use Rattle.world_laws.proofs.ForgedLines.{lines-hand-over, texts-hand-over}
use Rattle.world_laws.proofs.what_is_forged_is_handed_over.Goals as goal

pub returns-clause-lines : goal.returns-clause-lines
returns-clause-lines c = lines-hand-over

pub returns-clause-texts : goal.returns-clause-texts
returns-clause-texts c = texts-hand-over
