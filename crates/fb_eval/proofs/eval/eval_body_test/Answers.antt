use Rattle.std.proofs.Common.{◌∙◌, map, refl, sym, ap}
use Rattle.fb_syntax.specs.Views.{view_stmt, statements_of}
use Rattle.fb_meaning.specs.Evaluations.{Done}
use Rattle.fb_eval.specs.States.{flow_of, state_of}
use Rattle.fb_eval.proofs.Evaluated.{begins_so, ends_stopped, none_before, test_done, test_ready, test_stands, test_stops, ticks_of_run}
use Rattle.fb_eval.proofs.eval.eval_body_test.Goals as goal

pub statements-requires-clause-ready : goal.statements-requires-clause-ready
statements-requires-clause-ready g c =
    test_ready c.of_test-body.result c.new-progress.result
    (begins_so c.new.result c.new-2.result c.new-progress.result c.new-progress.ensures c.new.ensures c.new-2.ensures)
    c.args.fuel.now c.of_test-body.ensures.whose c.proper.ensures

pub statements-requires-clause-stands : goal.statements-requires-clause-stands
statements-requires-clause-stands g c =
    test_stands c.of_test-body.result c.args.test.now.tree _
    (ap (λ stmts. statements_of (map view_stmt stmts)) c.as_slice-stmts.ensures.value ∙ ap (λ test. test.body) c.tree.ensures)
    c.of_test-body.ensures.counts c.args.test.now.limits

pub returns-in_err-flow-clause-means : goal.returns-in_err-flow-clause-means
returns-in_err-flow-clause-means g c =
    ends_stopped _ _ _ _ c.from_residual.result c.from_residual.ensures.1 refl
    (test_stops c.of_test-body.result c.new-progress.result
    (begins_so c.new.result c.new-2.result c.new-progress.result c.new-progress.ensures c.new.ensures c.new-2.ensures)
    _ _ _ _ _
    (ap (λ program. program.tree) c.of_test-body.ensures.program) c.of_test-body.ensures.whose c.of_test-body.ensures.index
    (ap (λ stmts. statements_of (map view_stmt stmts)) c.as_slice-stmts.ensures.value ∙ ap (λ test. test.body) c.tree.ensures)
    _ c.in_err-flow.ensures.ends)

pub returns-clause-means : goal.returns-clause-means
returns-clause-means g c =
    test_done c.of_test-body.result c.new-progress.result
    (begins_so c.new.result c.new-2.result c.new-progress.result c.new-progress.ensures c.new.ensures c.new-2.ensures)
    _ _ _ _ _
    (ap (λ program. program.tree) c.of_test-body.ensures.program) c.of_test-body.ensures.whose c.of_test-body.ensures.index
    (ap (λ stmts. statements_of (map view_stmt stmts)) c.as_slice-stmts.ensures.value ∙ ap (λ test. test.body) c.tree.ensures)
    (flow_of c.in_ok-flow.flow) (state_of c.statements.new.progress c.statements.new.fuel) c.in_ok-flow.ensures.ends
    ∙ ap (λ run. Done run c.statements.new.fuel) (sym c.run_of.ensures)

pub returns-clause-ticks : goal.returns-clause-ticks
returns-clause-ticks g c =
    ticks_of_run _ _ _ _ _ _ c.run_of.ensures
    (none_before c.of_test-body.result c.new-progress.result
    (begins_so c.new.result c.new-2.result c.new-progress.result c.new-progress.ensures c.new.ensures c.new-2.ensures))
    c.in_ok-flow.ensures.ticks refl
