use Rattle.tests_checks.proofs.pieces.is_broken_so.Given as goal

abbrev pub ghosts-fed : goal.ghosts-fed
ghosts-fed a = record { name = a.blank.name; parts = a.blank.parts }
