use Rattle.ask_speed.proofs.asking.rows_found.Given as goal

abbrev pub ghosts-asked_often : goal.ghosts-asked_often
ghosts-asked_often a = record { name = a.blank.name; parts = a.blank.parts }
