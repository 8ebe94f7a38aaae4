use Rattle.file_vectors.proofs.sections.written.Given as goal

abbrev pub ghosts-packed : goal.ghosts-packed
ghosts-packed a = record { name = a.blank.name; parts = a.blank.parts }
