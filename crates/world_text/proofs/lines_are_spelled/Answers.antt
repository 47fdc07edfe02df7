use Rattle.world_text.proofs.Spelled.{spelled}
use Rattle.world_text.proofs.lines_are_spelled.Goals as goal

pub returns : goal.returns
returns c = spelled
