use Rattle.fb_stitch.specs.Sources.{AreTrueOf}
use Rattle.tests_derivations.proofs.known.store_of.Given as goal

abbrev pub invariant-loop-row : goal.invariant-loop-row
invariant-loop-row l = AreTrueOf l.program.tree l.store
