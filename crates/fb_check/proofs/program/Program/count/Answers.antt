use Rattle.std.proofs.Common.{◌*◌, ◌≤◌, length, rules, ap, ◌∙◌, arith}
use Rattle.std.proofs.Math.Logic.{∥∥₁_elim}
use Rattle.std.specs.Coded.{le_prop}
use Rattle.std.proofs.lemmas.List.{length-map}
use Rattle.fb_syntax.specs.Trees.{MethodTree}
use Rattle.fb_syntax.specs.Limits.{most_methods, most_services}
use Rattle.fb_syntax.specs.Views.{view_services}
use Rattle.fb_check.specs.Programs.{methods_of}
use Rattle.fb_check.proofs.MethodTables.{count_fits}
use Rattle.fb_check.proofs.program.Program.count.Goals as goal

pub overflow_cast-result : goal.overflow_cast-result
overflow_cast-result c =
    let tree = view_services c.self.inside.services.value in
    let few : length (methods_of tree) ≤ most_methods * most_services = ∥∥₁_elim c.self.inside.limits le_prop (count_fits tree) in
    let counted = ap length c.self.invariant.0 ∙ length-map (methods_of tree) (λ (x : MethodTree). x.gives) in
    let small : c.len.result ≤ 16384 = omega (arith, counted, c.len.ensures, c.self.inside.kinds.ok.0) in
    search rules
