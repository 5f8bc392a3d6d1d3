use Rattle.std.proofs.Common.{◌≡◌, ◌++◌, drop, flat_map}
use Rattle.fb_worklist.specs.Worklists.{pending_by}
use Rattle.fb_worklist.proofs.extending.extensions_at.Given as goal

-- the extensions at the calls so far come before those at the calls that are left
abbrev pub invariant-loop-call : goal.invariant-loop-call
invariant-loop-call l =
    l.found.items ++ flat_map (pending_by l.faults l.plan l.number) (drop l.call-index l.calls)
    ≡ flat_map (pending_by l.faults l.plan l.number) l.calls
