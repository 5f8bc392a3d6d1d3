use Rattle.tests_evaluations.proofs.methods.told_of_body.Given as goal

abbrev pub ghosts-local : goal.ghosts-local
ghosts-local a = record { name = a.blank.name; parts = a.blank.parts }
