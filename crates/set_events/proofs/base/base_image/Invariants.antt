use Rattle.set_events.proofs.base.base_image.Given as goal

abbrev pub ghosts-all_records : goal.ghosts-all_records
ghosts-all_records a = record { name = a.blank.name; parts = a.blank.parts }
