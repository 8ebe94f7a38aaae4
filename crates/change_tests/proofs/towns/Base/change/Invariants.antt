use Rattle.change_tests.proofs.towns.Base.change.Given as goal

abbrev pub ghosts-change_of : goal.ghosts-change_of
ghosts-change_of a = record { name = a.blank.name; parts = a.blank.parts }
