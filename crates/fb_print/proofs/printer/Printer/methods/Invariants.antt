use Rattle.std.proofs.Common.{◌≡◌, ◌++◌, take}
use Rattle.std.specs.List.{flat_map}
use Rattle.fb_print.specs.Printed.{method_text}
use Rattle.fb_print.proofs.printer.Printer.methods.Given as goal

abbrev pub invariant-loop-method : goal.invariant-loop-method
invariant-loop-method l =
    l.self ≡ l.initial.self ++ flat_map method_text (take l.method-index l.methods)
