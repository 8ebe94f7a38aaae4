use Rattle.change_tests.proofs.towns.Base.records.Given as goal

abbrev pub ghosts-records_of : goal.ghosts-records_of
ghosts-records_of a = record { name = a.blank.name; parts = a.blank.parts }
