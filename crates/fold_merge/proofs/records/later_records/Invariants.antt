use Rattle.fold_merge.proofs.records.later_records.Given as goal

abbrev pub ghosts-collected : goal.ghosts-collected
ghosts-collected a = record { name = a.blank.name; parts = a.blank.parts }
