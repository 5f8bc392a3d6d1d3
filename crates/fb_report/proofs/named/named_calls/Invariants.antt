use Rattle.std.proofs.Common.{◌≡◌, ◌++◌, length, option_map}
use Rattle.std.specs.List.{All}
use Rattle.fb_report.specs.Names.{IsMethodOf, each_of, named_asked}
use Rattle.fb_report.proofs.named.named_calls.Given as goal

abbrev pub invariant-loop-left : goal.invariant-loop-left
invariant-loop-left l =
    (each_of (named_asked l.program.tree) l.calls ≡ option_map (λ ys. l.named ++ ys) (each_of (named_asked l.program.tree) l.left))
    × All (λ asked. IsMethodOf l.program.tree asked.callee) l.left

abbrev pub decreases-loop-left : goal.decreases-loop-left
decreases-loop-left l = length l.left
