use Rattle.replay.proofs.life.Life.tell_monitor.Given as goal

abbrev pub ghosts-monitor_of : goal.ghosts-monitor_of
ghosts-monitor_of a = record { name = a.blank.name; parts = a.blank.parts }
