use Rattle.std.proofs.Common.{◌≡◌, ◌++◌, length, filter_map}
use Rattle.fb_tree.specs.Calls.{injection_of, injections_of}
use Rattle.fb_tree.specs.Views.{view_run}
use Rattle.fb_functest.proofs.run.injections.Given as goal

abbrev pub invariant-loop-visit : goal.invariant-loop-visit
invariant-loop-visit l = l.injected ++ filter_map injection_of l.calls ≡ injections_of (view_run l.run)

abbrev pub decreases-loop-visit : goal.decreases-loop-visit
decreases-loop-visit l = length l.calls
