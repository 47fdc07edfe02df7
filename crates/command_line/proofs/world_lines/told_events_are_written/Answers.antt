use Rattle.command_line.proofs.WorldToldLemmas.{all-written}
use Rattle.command_line.proofs.world_lines.told_events_are_written.Goals as goal

pub returns : goal.returns
returns c = all-written
