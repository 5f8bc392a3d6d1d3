use Rattle.std.proofs.Common.{codes}
use Rattle.std.specs.List.{join_by}
use Rattle.fb_print.specs.Printed.{param_text}
use Rattle.fb_print.proofs.Steps.{three_pieces}
use Rattle.fb_print.proofs.ServiceTexts.{params_text}
use Rattle.fb_print.proofs.printer.Printer.params.Goals as goal

pub returns : goal.returns
returns c =
    let params = join_by param_text (codes ", ") c.args.params.now in
    three_pieces c.put-2.result c.args.self.now c.put.new.self c.listed_params.new.self c.put-2.new.self
    (codes "(") params (codes ")") _ (params_text c.args.params.now) c.in_ok-put.ensures c.in_ok-listed_params.ensures c.put-2.ensures
