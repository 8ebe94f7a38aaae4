use Rattle.obf_cli.proofs.main.Given as goal

abbrev pub ghosts-start : goal.ghosts-start
ghosts-start a call = record { name = call.blank.name; parts = call.blank.parts }
