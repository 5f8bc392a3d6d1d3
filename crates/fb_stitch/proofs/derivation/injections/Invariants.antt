use Rattle.std.proofs.Common.{◌≡◌, take, filter_map}
use Rattle.fb_tree.specs.Calls.{injection_of}
use Rattle.fb_stitch.proofs.derivation.injections.Given as goal

abbrev pub invariant-loop-visit : goal.invariant-loop-visit
invariant-loop-visit l = l.injected ≡ filter_map injection_of (take l.visit-index l.visits)
