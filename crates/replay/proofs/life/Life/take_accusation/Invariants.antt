use Rattle.replay.proofs.life.Life.take_accusation.Given as goal

abbrev pub ghosts-put_accusation : goal.ghosts-put_accusation
ghosts-put_accusation a = record { name = a.blank.name; parts = a.blank.parts }
