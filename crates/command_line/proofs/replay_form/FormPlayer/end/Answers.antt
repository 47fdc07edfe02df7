use Rattle.command_line.proofs.ReplayLineLemmas.{bad-end}
use Rattle.command_line.proofs.replay_form.FormPlayer.end.Goals as goal

pub returns-in-Direct : goal.returns-in-Direct
returns-in-Direct c = record { end = rw (c.for_word.ensures, c.in-Direct.is) (bad-end c.in-Direct.player c.end.new._text.items c.end.result c.end.ensures.end) }
