use Rattle.ask_tests.proofs.grids.grid_image.Given as goal

abbrev pub ghosts-packed_base : goal.ghosts-packed_base
ghosts-packed_base a = record { name = a.blank.name; parts = a.blank.parts }
