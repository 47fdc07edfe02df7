use Rattle.monitor_rule.proofs.Rings.monitor.Given as goal

abbrev pub ghosts-monitor_in : goal.ghosts-monitor_in
ghosts-monitor_in a = record { name = a.blank.name; parts = a.blank.parts }
