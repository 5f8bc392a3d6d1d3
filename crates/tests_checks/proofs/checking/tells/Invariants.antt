use Rattle.tests_checks.proofs.checking.tells.Given as goal

abbrev pub ghosts-verified : goal.ghosts-verified
ghosts-verified a = record { name = a.blank.name; parts = a.blank.parts }
