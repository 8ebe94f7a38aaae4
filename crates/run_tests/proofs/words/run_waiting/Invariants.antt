use Rattle.run_tests.proofs.words.run_waiting.Given as goal

abbrev pub ghosts-wait_counted : goal.ghosts-wait_counted
ghosts-wait_counted g a = record { name = a.blank.name; parts = a.blank.parts }
