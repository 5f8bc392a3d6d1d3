use Rattle.std.proofs.Common.{codes, refl, ap, ◌∙◌}
use Rattle.std.proofs.lemmas.Result.{err_from_is_err_and}
use Rattle.serde_json.specs.Data.{object, member, string}
use Rattle.fb_report.specs.Ranges.{IsInRange, IsProperLine}
use Rattle.fb_report.specs.Trees.{number_tree, optional_tree, cause_tree, plan_tree, line_tree}
use Rattle.fb_reading.specs.declared.key.Key.TheVariants as key
use Rattle.fb_reading.specs.Keys.{key_text}
use Rattle.fb_reading.proofs.Passing.{calls-of, long-to, missed, passed, plan-of}
use Rattle.fb_reading.proofs.read_lines.read_end.Goals as goal

pub returns-in_err-cause-clause-refused : goal.returns-in_err-cause-clause-refused
returns-in_err-cause-clause-refused c =
    let p = err_from_is_err_and c.from_residual.result c.from_residual.ensures.1 in
    rw (p.1, p.2)
    (missed _ _ _ _ _ _ c.in_err-cause.ensures.refused)

pub returns-in_err-failed-clause-refused : goal.returns-in_err-failed-clause-refused
returns-in_err-failed-clause-refused c =
    let p = err_from_is_err_and c.from_residual-in_err-failed.result c.from_residual-in_err-failed.ensures.1 in
    rw (p.1, p.2)
    (passed _ _ _ _ _ _ _ _ c.in_ok-cause.ensures.read.1 (c.in_ok-cause.cause, c.in_ok-cause.ensures.read.0, refl)
    (missed _ _ _ _ _ _ c.in_err-failed.ensures.refused))

pub returns-in_err-invs-clause-refused : goal.returns-in_err-invs-clause-refused
returns-in_err-invs-clause-refused c =
    let p = err_from_is_err_and c.from_residual-in_err-invs.result c.from_residual-in_err-invs.ensures.1 in
    rw (p.1, p.2)
    (passed _ _ _ _ _ _ _ _ c.in_ok-cause.ensures.read.1 (c.in_ok-cause.cause, c.in_ok-cause.ensures.read.0, refl)
    (passed _ _ _ _ _ _ _ _ c.in_ok-failed.ensures.read.1 (c.in_ok-failed.failed, c.in_ok-failed.ensures.read.0, refl)
    (missed _ _ _ _ _ _ c.in_err-invs.ensures.refused)))

pub returns-in_err-word-clause-refused : goal.returns-in_err-word-clause-refused
returns-in_err-word-clause-refused c =
    let p = err_from_is_err_and c.from_residual-in_err-word.result c.from_residual-in_err-word.ensures.1 in
    rw (p.1, p.2)
    (passed _ _ _ _ _ _ _ _ c.in_ok-cause.ensures.read.1 (c.in_ok-cause.cause, c.in_ok-cause.ensures.read.0, refl)
    (passed _ _ _ _ _ _ _ _ c.in_ok-failed.ensures.read.1 (c.in_ok-failed.failed, c.in_ok-failed.ensures.read.0, refl)
    (passed _ _ _ _ _ _ _ _ c.in_ok-invs.ensures.read.1 (c.in_ok-invs.invs, c.in_ok-invs.ensures.read.0, refl)
    (missed _ _ _ _ _ _ c.in_err-word.ensures.refused))))

pub returns-in_err-plans-clause-refused : goal.returns-in_err-plans-clause-refused
returns-in_err-plans-clause-refused c =
    let p = err_from_is_err_and c.from_residual-in_err-plans.result c.from_residual-in_err-plans.ensures.1 in
    rw (p.1, p.2)
    (passed _ _ _ _ _ _ _ _ c.in_ok-cause.ensures.read.1 (c.in_ok-cause.cause, c.in_ok-cause.ensures.read.0, refl)
    (passed _ _ _ _ _ _ _ _ c.in_ok-failed.ensures.read.1 (c.in_ok-failed.failed, c.in_ok-failed.ensures.read.0, refl)
    (passed _ _ _ _ _ _ _ _ c.in_ok-invs.ensures.read.1 (c.in_ok-invs.invs, c.in_ok-invs.ensures.read.0, refl)
    (passed _ _ _ _ _ _ _ _ c.in_ok-word.ensures.read refl
    (missed _ _ _ _ _ _ c.in_err-plans.ensures.refused)))))

pub returns-in_err-pruned-clause-refused : goal.returns-in_err-pruned-clause-refused
returns-in_err-pruned-clause-refused c =
    let p = err_from_is_err_and c.from_residual-in_err-pruned.result c.from_residual-in_err-pruned.ensures.1 in
    rw (p.1, p.2)
    (passed _ _ _ _ _ _ _ _ c.in_ok-cause.ensures.read.1 (c.in_ok-cause.cause, c.in_ok-cause.ensures.read.0, refl)
    (passed _ _ _ _ _ _ _ _ c.in_ok-failed.ensures.read.1 (c.in_ok-failed.failed, c.in_ok-failed.ensures.read.0, refl)
    (passed _ _ _ _ _ _ _ _ c.in_ok-invs.ensures.read.1 (c.in_ok-invs.invs, c.in_ok-invs.ensures.read.0, refl)
    (passed _ _ _ _ _ _ _ _ c.in_ok-word.ensures.read refl
    (passed _ _ _ _ _ _ _ _ c.in_ok-plans.ensures.read.1 (c.in_ok-plans.plans, c.in_ok-plans.ensures.read.0, refl)
    (missed _ _ _ _ _ _ c.in_err-pruned.ensures.refused))))))

pub returns-in_err-run-clause-refused : goal.returns-in_err-run-clause-refused
returns-in_err-run-clause-refused c =
    let p = err_from_is_err_and c.from_residual-in_err-run.result c.from_residual-in_err-run.ensures.1 in
    rw (p.1, p.2)
    (passed _ _ _ _ _ _ _ _ c.in_ok-cause.ensures.read.1 (c.in_ok-cause.cause, c.in_ok-cause.ensures.read.0, refl)
    (passed _ _ _ _ _ _ _ _ c.in_ok-failed.ensures.read.1 (c.in_ok-failed.failed, c.in_ok-failed.ensures.read.0, refl)
    (passed _ _ _ _ _ _ _ _ c.in_ok-invs.ensures.read.1 (c.in_ok-invs.invs, c.in_ok-invs.ensures.read.0, refl)
    (passed _ _ _ _ _ _ _ _ c.in_ok-word.ensures.read refl
    (passed _ _ _ _ _ _ _ _ c.in_ok-plans.ensures.read.1 (c.in_ok-plans.plans, c.in_ok-plans.ensures.read.0, refl)
    (passed _ _ _ _ _ _ _ _ c.in_ok-pruned.ensures.read.1 (c.in_ok-pruned.pruned, c.in_ok-pruned.ensures.read.0, refl)
    (missed _ _ _ _ _ _ c.in_err-run.ensures.refused)))))))

pub returns-in_err-stopped-clause-refused : goal.returns-in_err-stopped-clause-refused
returns-in_err-stopped-clause-refused c =
    let p = err_from_is_err_and c.from_residual-in_err-stopped.result c.from_residual-in_err-stopped.ensures.1 in
    rw (p.1, p.2)
    (passed _ _ _ _ _ _ _ _ c.in_ok-cause.ensures.read.1 (c.in_ok-cause.cause, c.in_ok-cause.ensures.read.0, refl)
    (passed _ _ _ _ _ _ _ _ c.in_ok-failed.ensures.read.1 (c.in_ok-failed.failed, c.in_ok-failed.ensures.read.0, refl)
    (passed _ _ _ _ _ _ _ _ c.in_ok-invs.ensures.read.1 (c.in_ok-invs.invs, c.in_ok-invs.ensures.read.0, refl)
    (passed _ _ _ _ _ _ _ _ c.in_ok-word.ensures.read refl
    (passed _ _ _ _ _ _ _ _ c.in_ok-plans.ensures.read.1 (c.in_ok-plans.plans, c.in_ok-plans.ensures.read.0, refl)
    (passed _ _ _ _ _ _ _ _ c.in_ok-pruned.ensures.read.1 (c.in_ok-pruned.pruned, c.in_ok-pruned.ensures.read.0, refl)
    (passed _ _ _ _ _ _ _ _ c.in_ok-run.ensures.read.1 (c.in_ok-run.run', c.in_ok-run.ensures.read.0, refl)
    (missed _ _ _ _ _ _ c.in_err-stopped.ensures.refused))))))))

pub returns-in_err-end-clause-refused : goal.returns-in_err-end-clause-refused
returns-in_err-end-clause-refused c =
    let p = err_from_is_err_and c.from_residual-in_err-end.result c.from_residual-in_err-end.ensures.1 in
    rw (p.1, p.2)
    (passed _ _ _ _ _ _ _ _ c.in_ok-cause.ensures.read.1 (c.in_ok-cause.cause, c.in_ok-cause.ensures.read.0, refl)
    (passed _ _ _ _ _ _ _ _ c.in_ok-failed.ensures.read.1 (c.in_ok-failed.failed, c.in_ok-failed.ensures.read.0, refl)
    (passed _ _ _ _ _ _ _ _ c.in_ok-invs.ensures.read.1 (c.in_ok-invs.invs, c.in_ok-invs.ensures.read.0, refl)
    (passed _ _ _ _ _ _ _ _ c.in_ok-word.ensures.read refl
    (passed _ _ _ _ _ _ _ _ c.in_ok-plans.ensures.read.1 (c.in_ok-plans.plans, c.in_ok-plans.ensures.read.0, refl)
    (passed _ _ _ _ _ _ _ _ c.in_ok-pruned.ensures.read.1 (c.in_ok-pruned.pruned, c.in_ok-pruned.ensures.read.0, refl)
    (passed _ _ _ _ _ _ _ _ c.in_ok-run.ensures.read.1 (c.in_ok-run.run', c.in_ok-run.ensures.read.0, refl)
    (passed _ _ _ _ _ _ _ _ c.in_ok-stopped.ensures.read.1 (c.in_ok-stopped.stopped, c.in_ok-stopped.ensures.read.0, refl)
    c.in_err-end.ensures.refused))))))))

pub returns-clause-read : goal.returns-clause-read
unfolding IsProperLine IsInRange line_tree
returns-clause-read c =
    let members =
    (c.in_ok-cause.ensures.read.1 ∙ ap (member (key_text key.Cause) (cause_tree c.in_ok-cause.cause))
    (c.in_ok-failed.ensures.read.1 ∙ ap (member (key_text key.Failed) (number_tree c.in_ok-failed.failed))
    (c.in_ok-invs.ensures.read.1 ∙ ap (member (key_text key.Invs) (number_tree c.in_ok-invs.invs))
    (c.in_ok-word.ensures.read ∙ ap (member (key_text key.Kind) (string (codes "end")))
    (c.in_ok-plans.ensures.read.1 ∙ ap (member (key_text key.Plans) (number_tree c.in_ok-plans.plans))
    (c.in_ok-pruned.ensures.read.1 ∙ ap (member (key_text key.Pruned) (number_tree c.in_ok-pruned.pruned))
    (c.in_ok-run.ensures.read.1 ∙ ap (member (key_text key.Run) (number_tree c.in_ok-run.run'))
    (c.in_ok-stopped.ensures.read.1 ∙ ap (member (key_text key.Stopped) (optional_tree plan_tree c.in_ok-stopped.stopped))
    c.in_ok-end.ensures.read)))))))) in (
      (
        record {
          plans_fits = long-to _ c.in_ok-plans.ensures.read.0.1;
          run_fits = long-to _ c.in_ok-run.ensures.read.0.1;
          pruned_fits = long-to _ c.in_ok-pruned.ensures.read.0.1;
          failed_fits = long-to _ c.in_ok-failed.ensures.read.0.1;
          invs_fits = long-to _ c.in_ok-invs.ensures.read.0.1;
          stopped_fits = plan-of _ c.in_ok-stopped.ensures.read.0;
        },
        calls-of _ c.in_ok-stopped.ensures.read.0,
      ),
      ap object members,
    )
