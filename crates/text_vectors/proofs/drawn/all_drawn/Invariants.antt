use Rattle.text_vectors.proofs.drawn.all_drawn.Given as goal

abbrev pub ghosts-all_drawn_by : goal.ghosts-all_drawn_by
ghosts-all_drawn_by a = record { name = a.blank.name; parts = a.blank.parts }
