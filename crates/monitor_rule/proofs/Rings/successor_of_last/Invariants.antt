use Rattle.monitor_rule.proofs.Rings.successor_of_last.Given as goal

abbrev pub ghosts-successor_of_last_in : goal.ghosts-successor_of_last_in
ghosts-successor_of_last_in a = record { name = a.blank.name; parts = a.blank.parts }
