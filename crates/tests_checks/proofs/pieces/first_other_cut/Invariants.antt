use Rattle.tests_checks.proofs.pieces.first_other_cut.Given as goal

abbrev pub ghosts-fed_cut : goal.ghosts-fed_cut
ghosts-fed_cut a = record { name = a.blank.name; parts = a.blank.parts }
