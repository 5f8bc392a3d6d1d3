use Rattle.std.proofs.Common.{◌≡◌, ◌++◌, length, option_map}
use Rattle.fb_report.specs.Names.{each_of, asked_named}
use Rattle.fb_report.proofs.named.found_calls.Given as goal

abbrev pub invariant-loop-left : goal.invariant-loop-left
invariant-loop-left l =
    each_of (asked_named l.program.tree) l.calls ≡ option_map (λ ys. l.found ++ ys) (each_of (asked_named l.program.tree) l.left)

abbrev pub decreases-loop-left : goal.decreases-loop-left
decreases-loop-left l = length l.left
