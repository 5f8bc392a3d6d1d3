use Rattle.std.proofs.Common.{codes, refl, ap, ◌∙◌, arith}
use Rattle.std.proofs.lemmas.Result.{err_from_is_err_and}
use Rattle.serde_json.specs.Data.{object, member, string, boolean}
use Rattle.fb_report.specs.Ranges.{IsInRange, IsProperLine}
use Rattle.fb_report.specs.Trees.{number_tree, line_tree}
use Rattle.fb_reading.specs.declared.key.Key.TheVariants as key
use Rattle.fb_reading.specs.Keys.{key_text}
use Rattle.fb_reading.proofs.Passing.{missed, passed, version-of}
use Rattle.fb_reading.proofs.read_lines.read_header.Goals as goal

pub returns-in_err-fuel-clause-refused : goal.returns-in_err-fuel-clause-refused
returns-in_err-fuel-clause-refused c =
    let p = err_from_is_err_and c.from_residual.result c.from_residual.ensures.1 in
    rw (p.1, p.2)
    (missed _ _ _ _ _ _ c.in_err-fuel.ensures.refused)

pub returns-in_err-word-clause-refused : goal.returns-in_err-word-clause-refused
returns-in_err-word-clause-refused c =
    let p = err_from_is_err_and c.from_residual-in_err-word.result c.from_residual-in_err-word.ensures.1 in
    rw (p.1, p.2)
    (passed _ _ _ _ _ _ _ _ c.in_ok-fuel.ensures.read.1 (c.in_ok-fuel.fuel, c.in_ok-fuel.ensures.read.0, refl)
    (missed _ _ _ _ _ _ c.in_err-word.ensures.refused))

pub returns-in_err-reduction-clause-refused : goal.returns-in_err-reduction-clause-refused
returns-in_err-reduction-clause-refused c =
    let p = err_from_is_err_and c.from_residual-in_err-reduction.result c.from_residual-in_err-reduction.ensures.1 in
    rw (p.1, p.2)
    (passed _ _ _ _ _ _ _ _ c.in_ok-fuel.ensures.read.1 (c.in_ok-fuel.fuel, c.in_ok-fuel.ensures.read.0, refl)
    (passed _ _ _ _ _ _ _ _ c.in_ok-word.ensures.read refl
    (missed _ _ _ _ _ _ c.in_err-reduction.ensures.refused)))

pub returns-in_err-version-clause-refused : goal.returns-in_err-version-clause-refused
returns-in_err-version-clause-refused c =
    let p = err_from_is_err_and c.from_residual-in_err-version.result c.from_residual-in_err-version.ensures.1 in
    rw (p.1, p.2)
    (passed _ _ _ _ _ _ _ _ c.in_ok-fuel.ensures.read.1 (c.in_ok-fuel.fuel, c.in_ok-fuel.ensures.read.0, refl)
    (passed _ _ _ _ _ _ _ _ c.in_ok-word.ensures.read refl
    (passed _ _ _ _ _ _ _ _ c.in_ok-reduction.ensures.read.1 (c.in_ok-reduction.reduction, c.in_ok-reduction.ensures.read.0, refl)
    (missed _ _ _ _ _ _ c.in_err-version.ensures.refused))))

pub returns-in_err-end-clause-refused : goal.returns-in_err-end-clause-refused
returns-in_err-end-clause-refused c =
    let p = err_from_is_err_and c.from_residual-in_err-end.result c.from_residual-in_err-end.ensures.1 in
    rw (p.1, p.2)
    (passed _ _ _ _ _ _ _ _ c.in_ok-fuel.ensures.read.1 (c.in_ok-fuel.fuel, c.in_ok-fuel.ensures.read.0, refl)
    (passed _ _ _ _ _ _ _ _ c.in_ok-word.ensures.read refl
    (passed _ _ _ _ _ _ _ _ c.in_ok-reduction.ensures.read.1 (c.in_ok-reduction.reduction, c.in_ok-reduction.ensures.read.0, refl)
    (passed _ _ _ _ _ _ _ _ c.in_ok-version.ensures.read.1 (c.in_ok-version.version, c.in_ok-version.ensures.read.0, refl)
    c.in_err-end.ensures.refused))))

pub returns-clause-read : goal.returns-clause-read
unfolding IsProperLine IsInRange line_tree
returns-clause-read c =
    let members =
    (c.in_ok-fuel.ensures.read.1 ∙ ap (member (key_text key.Fuel) (number_tree c.in_ok-fuel.fuel))
    (c.in_ok-word.ensures.read ∙ ap (member (key_text key.Kind) (string (codes "header")))
    (c.in_ok-reduction.ensures.read.1 ∙ ap (member (key_text key.Reduction) (boolean c.in_ok-reduction.reduction))
    (c.in_ok-version.ensures.read.1 ∙ ap (member (key_text key.Version) (number_tree c.in_ok-version.version))
    c.in_ok-end.ensures.read)))) in
    let fuel = c.in_ok-fuel.ensures.read.0 in
    let version = c.in_ok-version.ensures.read.0 in
    (((omega (arith, version.1), omega (arith, fuel.1)), (version-of _ version.0 version.1, fuel.0, fuel.1)), ap object members)
