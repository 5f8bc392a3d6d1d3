use Rattle.std.proofs.Common.{take}
use Rattle.std.specs.Option.{MatchOption}
use Rattle.fb_graph.specs.Distances.{AreUnknown, IsNearest}
use Rattle.fb_graph.proofs.cycle.nearest.Given as goal

abbrev pub invariant-loop-method : goal.invariant-loop-method
invariant-loop-method l =
    let called = take l.method-index l.methods in
    MatchOption l.nearest (AreUnknown l.distances called) (IsNearest l.distances called)
