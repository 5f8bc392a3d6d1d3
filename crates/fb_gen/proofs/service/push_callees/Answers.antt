use Rattle.std.proofs.Common.{◌≡◌, ◌+◌, ◌++◌, List, map, ap, sym, ◌∙◌, append-nil, append_assoc, arith}
use Rattle.std.specs.List.{flat_map}
use Rattle.fb_syntax.specs.Views.{view_stmt}
use Rattle.fb_syntax.specs.Trees.{Statement}
use Rattle.fb_gen.specs.Draws.{draws_before, later_services, state_after}
use Rattle.fb_gen.specs.Trees.{statements_for}
use Rattle.fb_gen.proofs.Later.{none_later, flat_more}
use Rattle.fb_gen.proofs.service.push_callees.Goals as goal

pub loop-place-init : goal.loop-place-init
loop-place-init c =
    let before : List Statement = map view_stmt c.args.stmts.now.items in
    let nothing = ap (flat_map (statements_for c.args.number c.args.service)) none_later in (
      sym (append-nil before) ∙ sym (ap (λ added. before ++ added) nothing),
      c.new-draws.ensures.state,
      c.new-draws.ensures.small,
    )

pub loop-place-preserved : goal.loop-place-preserved
loop-place-preserved c =
    let place = c.loop-place.place in
    let before : List Statement = map view_stmt c.args.stmts.now.items in
    let kept = c.loop-place.invariant in
    let next : place + 2 + 1 ≡ place + 1 + 2 = omega arith in
    let for_callee = statements_for c.args.number c.args.service in (
      c.in_ok-push_callee.ensures.added c.args.number kept.1 ∙ ap (λ stmts. stmts ++ for_callee (place + 2)) kept.0
          ∙ append_assoc before (flat_map for_callee (later_services place)) (for_callee (place + 2))
          ∙ sym (ap (λ added. before ++ added) (flat_more for_callee place)),
      c.push_callee.ensures.drawn c.args.number kept.1 ∙ ap (λ callee. state_after c.args.number (draws_before callee)) next,
      c.push_callee.ensures.small,
    )
