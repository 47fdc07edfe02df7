use Rattle.membership.proofs.Membership.fault_of_accusation.Given as goal

abbrev pub ghosts-fault_of_accusation_in : goal.ghosts-fault_of_accusation_in
ghosts-fault_of_accusation_in a = record { name = a.blank.name; parts = a.blank.parts }
