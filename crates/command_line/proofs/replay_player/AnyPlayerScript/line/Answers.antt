use Rattle.command_line.proofs.ReplayLineLemmas.{first-line}
use Rattle.command_line.proofs.replay_player.AnyPlayerScript.line.Goals as goal

pub returns-in-Some-clause-line : goal.returns-in-Some-clause-line
returns-in-Some-clause-line c = rw c.in-Some.is c.line.ensures.line

pub returns-in-None-clause-line : goal.returns-in-None-clause-line
returns-in-None-clause-line c =
    rw (c.in-None.is, c.replace.ensures.after) (first-line c.new-player.result c.line-answer.new.self c.args.bytes.now c.line-answer.new.text.items c.line-answer.result c.new-player.ensures.owes c.line-answer.ensures.line)
