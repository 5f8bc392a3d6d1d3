use Rattle.std.proofs.lemmas.Result.{err_from_is_err_and}
use Rattle.fb_files.proofs.WholeSteps.{stopped}
use Rattle.fb_files.proofs.whole.read_whole.Goals as goal

pub returns-in_err-taken-clause-content : goal.returns-in_err-taken-clause-content
returns-in_err-taken-clause-content g c =
    let p = err_from_is_err_and c.from_residual.result c.from_residual.ensures.1 in
    rw (p.1, p.2) (stopped _ c.args.limit _ c.in_err-taken.ensures.cause)
