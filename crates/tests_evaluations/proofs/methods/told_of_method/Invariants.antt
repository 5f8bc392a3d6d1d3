use Rattle.tests_evaluations.proofs.methods.told_of_method.Given as goal

abbrev pub ghosts-invoked : goal.ghosts-invoked
ghosts-invoked a = record { name = a.blank.name; parts = a.blank.parts }
