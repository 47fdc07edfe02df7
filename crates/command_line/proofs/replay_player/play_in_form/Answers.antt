use Rattle.command_line.proofs.ReplayLineLemmas.{bad-run}
use Rattle.command_line.proofs.replay_player.play_in_form.Goals as goal

pub returns-in-Some-Direct-clause-continues : goal.returns-in-Some-Direct-clause-continues
returns-in-Some-Direct-clause-continues g c =
    rw (c.for_words.ensures, c.in-Some-Direct.is, c.in-Some-Direct.field-0-is) (bad-run c.in-Some-Direct.direct _ _ _ _ c.play_on.result c.play_on.ensures.continues)

pub returns-in-Some-World-clause-continues : goal.returns-in-Some-World-clause-continues
returns-in-Some-World-clause-continues g c = rw (c.in-Some-World.is, c.in-Some-World.field-0-is) c.play_on-in-Some-World.ensures.continues
