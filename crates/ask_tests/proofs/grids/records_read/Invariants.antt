use Rattle.ask_tests.proofs.grids.records_read.Given as goal

abbrev pub ghosts-records_met : goal.ghosts-records_met
ghosts-records_met a = record { name = a.blank.name; parts = a.blank.parts }
