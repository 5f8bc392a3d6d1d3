use Rattle.fb_cli.proofs.check.check.Given as goal

abbrev pub ghosts-ending_of : goal.ghosts-ending_of
ghosts-ending_of g a = record { name = a.blank.name; parts = a.blank.parts }
