use Rattle.std.proofs.Common.{Some, option_map, ap, sym, ◌∙◌}
use Rattle.fb_check.specs.declared.signature.Signature.{Signature}
use Rattle.fb_check.proofs.MethodTables.{params_at}
use Rattle.fb_check.proofs.program.Program.params.Goals as goal

pub returns : goal.returns
returns c =
    sym (params_at c.args.self.now.tree c.args.method.0)
    ∙ ap (option_map (λ (x : Signature). x.params)) c.signature.ensures
    ∙ ap Some (sym c.as_slice.ensures)
