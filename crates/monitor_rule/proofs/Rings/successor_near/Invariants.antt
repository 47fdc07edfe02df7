use Rattle.monitor_rule.proofs.Rings.successor_near.Given as goal

abbrev pub ghosts-successor_near_in : goal.ghosts-successor_near_in
ghosts-successor_near_in a = record { name = a.blank.name; parts = a.blank.parts }
