use Rattle.file_vectors.proofs.boxes.leaf.Given as goal

abbrev pub ghosts-next_leaf : goal.ghosts-next_leaf
ghosts-next_leaf a = record { name = a.blank.name; parts = a.blank.parts }
