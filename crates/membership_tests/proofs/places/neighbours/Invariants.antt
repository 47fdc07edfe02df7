use Rattle.membership_tests.proofs.places.neighbours.Given as goal

abbrev pub ghosts-neighbours_in : goal.ghosts-neighbours_in
ghosts-neighbours_in a = record { name = a.blank.name; parts = a.blank.parts }
