use Rattle.speed.proofs.search.find.Given as goal

abbrev pub ghosts-asked_often : goal.ghosts-asked_often
ghosts-asked_often a = record { name = a.blank.name; parts = a.blank.parts }
