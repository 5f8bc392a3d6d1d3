use Rattle.std.proofs.Common.{◌≡◌, ◌++◌, drop, map}
use Rattle.fb_worklist.specs.Worklists.{pending_at}
use Rattle.fb_worklist.proofs.extending.push_choices.Given as goal

abbrev pub invariant-loop-choice : goal.invariant-loop-choice
invariant-loop-choice l =
    l.found.items ++ map (pending_at l.plan l.number l.index) (drop l.choice-index l.choices)
    ≡ l.fn.found.items ++ map (pending_at l.plan l.number l.index) l.choices
