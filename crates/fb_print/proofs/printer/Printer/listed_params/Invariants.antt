use Rattle.std.proofs.Common.{◌≡◌, ◌++◌, codes, take}
use Rattle.std.specs.List.{flat_map}
use Rattle.fb_print.specs.Printed.{param_text}
use Rattle.fb_print.proofs.printer.Printer.listed_params.Given as goal

abbrev pub invariant-loop-param : goal.invariant-loop-param
invariant-loop-param l =
    l.self ≡ l.initial.self ++ flat_map (λ param. codes ", " ++ param_text param) (take l.param-index l.rest)
