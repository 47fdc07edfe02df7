use Rattle.membership_tests.proofs.monitors.questions_of_nine_steps.Given as goal

abbrev pub ghosts-ask_512 : goal.ghosts-ask_512
ghosts-ask_512 g a = record { name = a.blank.name; parts = a.blank.parts }
