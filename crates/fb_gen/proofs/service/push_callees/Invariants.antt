use Rattle.std.proofs.Common.{◌≡◌, ◌<◌, ◌+◌, ◌++◌, map}
use Rattle.std.specs.List.{flat_map}
use Rattle.fb_syntax.specs.Views.{view_stmt}
use Rattle.fb_gen.specs.Draws.{draws_before, later_services, state_after}
use Rattle.fb_gen.specs.Trees.{statements_for}
use Rattle.fb_gen.proofs.service.push_callees.Given as goal

abbrev pub invariant-loop-place : goal.invariant-loop-place
invariant-loop-place l =
    (map view_stmt l.stmts.items ≡ map view_stmt l.initial.stmts.items ++ flat_map (statements_for l.number l.service) (later_services l.place))
    × (l.draws.state ≡ state_after l.number (draws_before (l.place + 2))) × (l.draws.state < 65537)
