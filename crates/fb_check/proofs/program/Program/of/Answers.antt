use Rattle.std.proofs.Common.{map, ap, ◌∙◌}
use Rattle.fb_syntax.specs.Views.{view_services}
use Rattle.fb_check.specs.declared.signature.Signature.{Signature}
use Rattle.fb_check.specs.declared.declarations.Declarations.{Declarations}
use Rattle.fb_check.proofs.MethodTables.{kinds-signatures}
use Rattle.fb_check.proofs.program.Program.of.Goals as goal

pub invariant_of-result-2 : goal.invariant_of-result-2
invariant_of-result-2 c =
    let tree = view_services c.args.services in
    let tables = c.requires.tables in
    rw c.in_ok-new.ensures.ok (
      c.in_ok-kinds.ensures ∙ ap (λ (d : Declarations). map (λ (x : Signature). x.gives) d.methods) tables.declared ∙ kinds-signatures tree,
      tables,
    )
