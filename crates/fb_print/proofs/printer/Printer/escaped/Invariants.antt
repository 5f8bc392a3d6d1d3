use Rattle.std.proofs.Common.{◌≡◌, ◌++◌}
use Rattle.std.specs.List.{flat_map}
use lib.Utf8.{encodes}
use Rattle.fb_syntax.specs.Tokens.{escaped}
use Rattle.fb_print.proofs.printer.Printer.escaped.Given as goal

abbrev pub invariant-loop-c : goal.invariant-loop-c
invariant-loop-c l = l.self ≡ l.initial.self ++ flat_map escaped (encodes l.yielded)
