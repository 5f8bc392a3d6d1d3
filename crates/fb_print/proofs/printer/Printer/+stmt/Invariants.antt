use Rattle.std.proofs.Common.{◌≡◌, ◌++◌, take}
use Rattle.std.specs.List.{flat_map}
use Rattle.fb_print.specs.Printed.{line_text, handler_text}
use Rattle.fb_print.proofs.printer.Printer.+stmt.Given as goal

abbrev pub invariant-lines-loop-stmt : goal.invariant-lines-loop-stmt
invariant-lines-loop-stmt l =
    l.self ≡ l.initial.self ++ flat_map (line_text l.depth) (take l.stmt-index l.stmts)

abbrev pub invariant-handlers-loop-handler : goal.invariant-handlers-loop-handler
invariant-handlers-loop-handler l =
    l.self ≡ l.initial.self ++ flat_map (handler_text l.depth) (take l.handler-index l.handlers)
