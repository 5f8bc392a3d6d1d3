use Rattle.std.proofs.Common.{◌≡◌, ◌++◌, take}
use Rattle.std.specs.List.{flat_map}
use Rattle.fb_print.specs.Printed.{service_text}
use Rattle.fb_print.proofs.printer.Printer.services.Given as goal

abbrev pub invariant-loop-service : goal.invariant-loop-service
invariant-loop-service l =
    l.self ≡ l.initial.self ++ flat_map service_text (take l.service-index l.services)
