use Rattle.command_line.proofs.WorldToldLemmas.{front-told}
use Rattle.command_line.proofs.world_lines.written_lines_are_told.Goals as goal

pub returns : goal.returns
returns c = front-told
