use Rattle.file_vectors.proofs.files.listed.Given as goal

abbrev pub ghosts-packed_base : goal.ghosts-packed_base
ghosts-packed_base a = record { name = a.blank.name; parts = a.blank.parts }
