use Rattle.std.proofs.Common.{codes, refl, ap, ◌∙◌}
use Rattle.std.proofs.lemmas.Result.{err_from_is_err_and}
use Rattle.serde_json.specs.Data.{member, string, boolean}
use Rattle.fb_report.specs.Trees.{number_tree, list_tree, optional_tree, index_tree, outcome_tree}
use Rattle.fb_reading.specs.declared.key.Key.TheVariants as key
use Rattle.fb_reading.specs.Keys.{key_text}
use Rattle.fb_reading.proofs.Passing.{index-beside, long-to, missed, passed}
use Rattle.fb_reading.proofs.read_lines.rest_of_plan.Goals as goal

pub returns-in_err-id-clause-refused : goal.returns-in_err-id-clause-refused
returns-in_err-id-clause-refused c =
    let p = err_from_is_err_and c.from_residual.result c.from_residual.ensures.1 in
    rw (p.1, p.2)
    (missed _ _ _ _ _ _ c.in_err-id.ensures.refused)

pub returns-in_err-index-clause-refused : goal.returns-in_err-index-clause-refused
returns-in_err-index-clause-refused c =
    let p = err_from_is_err_and c.from_residual-in_err-index.result c.from_residual-in_err-index.ensures.1 in
    rw (p.1, p.2)
    (passed _ _ _ _ _ _ _ _ c.in_ok-id.ensures.read.1 (c.in_ok-id.id, c.in_ok-id.ensures.read.0, refl)
    (missed _ _ _ _ _ _ c.in_err-index.ensures.refused))

pub returns-in_err-word-clause-refused : goal.returns-in_err-word-clause-refused
returns-in_err-word-clause-refused c =
    let p = err_from_is_err_and c.from_residual-in_err-word.result c.from_residual-in_err-word.ensures.1 in
    rw (p.1, p.2)
    (passed _ _ _ _ _ _ _ _ c.in_ok-id.ensures.read.1 (c.in_ok-id.id, c.in_ok-id.ensures.read.0, refl)
    (passed _ _ _ _ _ _ _ _ c.in_ok-index.ensures.read.2 (index-beside _ c.in_ok-index.index c.in_ok-index.ensures.read.0 c.in_ok-index.ensures.read.1)
    (missed _ _ _ _ _ _ c.in_err-word.ensures.refused)))

pub returns-in_err-outcome-clause-refused : goal.returns-in_err-outcome-clause-refused
returns-in_err-outcome-clause-refused c =
    let p = err_from_is_err_and c.from_residual-in_err-outcome.result c.from_residual-in_err-outcome.ensures.1 in
    rw (p.1, p.2)
    (passed _ _ _ _ _ _ _ _ c.in_ok-id.ensures.read.1 (c.in_ok-id.id, c.in_ok-id.ensures.read.0, refl)
    (passed _ _ _ _ _ _ _ _ c.in_ok-index.ensures.read.2 (index-beside _ c.in_ok-index.index c.in_ok-index.ensures.read.0 c.in_ok-index.ensures.read.1)
    (passed _ _ _ _ _ _ _ _ c.in_ok-word.ensures.read refl
    (missed _ _ _ _ _ _ c.in_err-outcome.ensures.refused))))

pub returns-in_err-parent-clause-refused : goal.returns-in_err-parent-clause-refused
returns-in_err-parent-clause-refused c =
    let p = err_from_is_err_and c.from_residual-in_err-parent.result c.from_residual-in_err-parent.ensures.1 in
    rw (p.1, p.2)
    (passed _ _ _ _ _ _ _ _ c.in_ok-id.ensures.read.1 (c.in_ok-id.id, c.in_ok-id.ensures.read.0, refl)
    (passed _ _ _ _ _ _ _ _ c.in_ok-index.ensures.read.2 (index-beside _ c.in_ok-index.index c.in_ok-index.ensures.read.0 c.in_ok-index.ensures.read.1)
    (passed _ _ _ _ _ _ _ _ c.in_ok-word.ensures.read refl
    (passed _ _ _ _ _ _ _ _ c.in_ok-outcome.ensures.read.1 (c.in_ok-outcome.outcome, c.in_ok-outcome.ensures.read.0, refl)
    (missed _ _ _ _ _ _ c.in_err-parent.ensures.refused)))))

pub returns-in_err-run-clause-refused : goal.returns-in_err-run-clause-refused
returns-in_err-run-clause-refused c =
    let p = err_from_is_err_and c.from_residual-in_err-run.result c.from_residual-in_err-run.ensures.1 in
    rw (p.1, p.2)
    (passed _ _ _ _ _ _ _ _ c.in_ok-id.ensures.read.1 (c.in_ok-id.id, c.in_ok-id.ensures.read.0, refl)
    (passed _ _ _ _ _ _ _ _ c.in_ok-index.ensures.read.2 (index-beside _ c.in_ok-index.index c.in_ok-index.ensures.read.0 c.in_ok-index.ensures.read.1)
    (passed _ _ _ _ _ _ _ _ c.in_ok-word.ensures.read refl
    (passed _ _ _ _ _ _ _ _ c.in_ok-outcome.ensures.read.1 (c.in_ok-outcome.outcome, c.in_ok-outcome.ensures.read.0, refl)
    (passed _ _ _ _ _ _ _ _ c.in_ok-parent.ensures.read.1 (c.in_ok-parent.parent, c.in_ok-parent.ensures.read.0, refl)
    (missed _ _ _ _ _ _ c.in_err-run.ensures.refused))))))

pub returns-in_err-uses-clause-refused : goal.returns-in_err-uses-clause-refused
returns-in_err-uses-clause-refused c =
    let p = err_from_is_err_and c.from_residual-in_err-uses.result c.from_residual-in_err-uses.ensures.1 in
    rw (p.1, p.2)
    (passed _ _ _ _ _ _ _ _ c.in_ok-id.ensures.read.1 (c.in_ok-id.id, c.in_ok-id.ensures.read.0, refl)
    (passed _ _ _ _ _ _ _ _ c.in_ok-index.ensures.read.2 (index-beside _ c.in_ok-index.index c.in_ok-index.ensures.read.0 c.in_ok-index.ensures.read.1)
    (passed _ _ _ _ _ _ _ _ c.in_ok-word.ensures.read refl
    (passed _ _ _ _ _ _ _ _ c.in_ok-outcome.ensures.read.1 (c.in_ok-outcome.outcome, c.in_ok-outcome.ensures.read.0, refl)
    (passed _ _ _ _ _ _ _ _ c.in_ok-parent.ensures.read.1 (c.in_ok-parent.parent, c.in_ok-parent.ensures.read.0, refl)
    (passed _ _ _ _ _ _ _ _ c.in_ok-run.ensures.read.1 (c.in_ok-run.run', c.in_ok-run.ensures.read.0, refl)
    (missed _ _ _ _ _ _ c.in_err-uses.ensures.refused)))))))

pub returns-in_err-end-clause-refused : goal.returns-in_err-end-clause-refused
returns-in_err-end-clause-refused c =
    let p = err_from_is_err_and c.from_residual-in_err-end.result c.from_residual-in_err-end.ensures.1 in
    rw (p.1, p.2)
    (passed _ _ _ _ _ _ _ _ c.in_ok-id.ensures.read.1 (c.in_ok-id.id, c.in_ok-id.ensures.read.0, refl)
    (passed _ _ _ _ _ _ _ _ c.in_ok-index.ensures.read.2 (index-beside _ c.in_ok-index.index c.in_ok-index.ensures.read.0 c.in_ok-index.ensures.read.1)
    (passed _ _ _ _ _ _ _ _ c.in_ok-word.ensures.read refl
    (passed _ _ _ _ _ _ _ _ c.in_ok-outcome.ensures.read.1 (c.in_ok-outcome.outcome, c.in_ok-outcome.ensures.read.0, refl)
    (passed _ _ _ _ _ _ _ _ c.in_ok-parent.ensures.read.1 (c.in_ok-parent.parent, c.in_ok-parent.ensures.read.0, refl)
    (passed _ _ _ _ _ _ _ _ c.in_ok-run.ensures.read.1 (c.in_ok-run.run', c.in_ok-run.ensures.read.0, refl)
    (passed _ _ _ _ _ _ _ _ c.in_ok-uses.ensures.read.1 (c.in_ok-uses.uses, c.in_ok-uses.ensures.read.0, refl)
    c.in_err-end.ensures.refused)))))))

pub returns-clause-read : goal.returns-clause-read
returns-clause-read c =
    let members =
    (c.in_ok-id.ensures.read.1 ∙ ap (member (key_text key.Id) (number_tree c.in_ok-id.id))
    (c.in_ok-index.ensures.read.2 ∙ ap (member (key_text key.Index) (optional_tree index_tree c.in_ok-index.index))
    (c.in_ok-word.ensures.read ∙ ap (member (key_text key.Kind) (string (codes "plan")))
    (c.in_ok-outcome.ensures.read.1 ∙ ap (member (key_text key.Outcome) (outcome_tree c.in_ok-outcome.outcome))
    (c.in_ok-parent.ensures.read.1 ∙ ap (member (key_text key.Parent) (optional_tree number_tree c.in_ok-parent.parent))
    (c.in_ok-run.ensures.read.1 ∙ ap (member (key_text key.Run) (boolean c.in_ok-run.run'))
    (c.in_ok-uses.ensures.read.1 ∙ ap (member (key_text key.Uses) (list_tree number_tree c.in_ok-uses.uses))
    c.in_ok-end.ensures.read))))))) in
    record {
      id_fits = long-to _ c.in_ok-id.ensures.read.0.1;
      index_there = c.in_ok-index.ensures.read.0;
      index_fits = c.in_ok-index.ensures.read.1;
      outcome_fits = c.in_ok-outcome.ensures.read.0;
      parent_fits = c.in_ok-parent.ensures.read.0;
      uses_fits = c.in_ok-uses.ensures.read.0;
      members = members;
    }
