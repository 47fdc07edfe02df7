use Rattle.monitor_rule.proofs.Rings.successor.Given as goal

abbrev pub ghosts-successor_in : goal.ghosts-successor_in
ghosts-successor_in a = record { name = a.blank.name; parts = a.blank.parts }
