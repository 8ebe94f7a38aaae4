use Rattle.run_tests.proofs.real.start_over.Given as goal

abbrev pub ghosts-start : goal.ghosts-start
ghosts-start g a = record { name = a.blank.name; parts = a.blank.parts }
