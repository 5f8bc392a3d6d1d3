use Rattle.std.proofs.Common.{◌≤◌, length, refl, arith}
use Rattle.std.proofs.lemmas.Option.{slice_get_past}
use Rattle.fb_check.specs.Declarations.{declarations_of}
use Rattle.fb_check.proofs.MethodTables.{length-signatures}
use Rattle.fb_expression.proofs.questions.is_asked_for.Goals as goal

pub returns-then-count-callee : goal.returns-then-count-callee
returns-then-count-callee c =
    let methods = (declarations_of c.args.program.now.tree).methods in
    let past : length methods ≤ c.args.callee = omega (arith, length-signatures c.args.program.now.tree, c.count.ensures, c.if-count-callee.true) in
    rw (slice_get_past methods c.args.callee past) refl
