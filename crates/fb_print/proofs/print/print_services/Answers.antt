use Rattle.std.proofs.Common.{◌++◌, ◌∙◌, ap}
use Rattle.std.specs.List.{flat_map}
use Rattle.fb_print.specs.Printed.{service_text}
use Rattle.fb_print.proofs.ServiceTexts.{print_text}
use Rattle.fb_print.proofs.print.print_services.Goals as goal

pub returns : goal.returns
returns c =
    let text = flat_map service_text in
    c.finish.ensures ∙ c.in_ok-services.ensures ∙ ap (λ l. l ++ text c.deref.result.now) c.new-printer.ensures
    ∙ ap text c.deref.ensures.value ∙ print_text c.args.services.now
