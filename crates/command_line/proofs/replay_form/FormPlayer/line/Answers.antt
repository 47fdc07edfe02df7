use Rattle.command_line.proofs.ReplayLineLemmas.{bad-line}
use Rattle.command_line.proofs.replay_form.FormPlayer.line.Goals as goal

pub returns-in-Direct-clause-line : goal.returns-in-Direct-clause-line
returns-in-Direct-clause-line c = rw (c.for_word.ensures, c.in-Direct.is) (bad-line c.in-Direct.player c.line.new.self c.args.bytes.now c.line.new.text.items c.line.result c.line.ensures.line)

pub returns-in-World-clause-line : goal.returns-in-World-clause-line
returns-in-World-clause-line c = rw c.in-World.is c.line-in-World.ensures.line
