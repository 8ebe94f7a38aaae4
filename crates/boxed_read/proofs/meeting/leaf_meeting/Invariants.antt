use Rattle.boxed_read.proofs.meeting.leaf_meeting.Given as goal

abbrev pub ghosts-leaf_counted : goal.ghosts-leaf_counted
ghosts-leaf_counted a = record { name = a.blank.name; parts = a.blank.parts }
