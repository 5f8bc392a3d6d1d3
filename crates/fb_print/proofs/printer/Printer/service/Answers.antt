use Rattle.std.proofs.Common.{◌++◌, ◌∙◌, ap, codes}
use Rattle.fb_print.proofs.Steps.{four_pieces}
use Rattle.std.specs.List.{flat_map}
use Rattle.fb_print.specs.Printed.{method_text}
use Rattle.fb_print.proofs.ServiceTexts.{service_lines}
use Rattle.fb_print.proofs.printer.Printer.service.Goals as goal

pub returns : goal.returns
returns c =
    let service = c.args.service.now in
    let head = codes "service " ++ service.name in
    let written = ap (λ methods. head ++ (codes " {" ++ (flat_map method_text methods ++ codes "\n}\n"))) c.deref.ensures.value in
    four_pieces c.put-2.result c.args.self.now c.named.new.self c.put.new.self c.methods.new.self c.put-2.new.self
    head (codes " {") (flat_map method_text c.deref.result.now) (codes "\n}\n") _ (written ∙ service_lines service)
    c.in_ok-named.ensures c.in_ok-put.ensures c.in_ok-methods.ensures c.put-2.ensures
