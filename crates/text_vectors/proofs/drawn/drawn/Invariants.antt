use Rattle.text_vectors.proofs.drawn.drawn.Given as goal

abbrev pub ghosts-drawn_by : goal.ghosts-drawn_by
ghosts-drawn_by a = record { name = a.blank.name; parts = a.blank.parts }
