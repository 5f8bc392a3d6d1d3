use Rattle.tests_derivations.proofs.derivations.told.Given as goal

abbrev pub ghosts-derived_counted : goal.ghosts-derived_counted
ghosts-derived_counted a = record { name = a.blank.name; parts = a.blank.parts }
