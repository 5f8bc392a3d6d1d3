use Rattle.fb_cli.proofs.trial.trial.Given as goal

abbrev pub ghosts-ending_of : goal.ghosts-ending_of
ghosts-ending_of a = record { name = a.blank.name; parts = a.blank.parts }
