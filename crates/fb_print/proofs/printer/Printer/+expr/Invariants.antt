use Rattle.std.proofs.Common.{◌≡◌, ◌++◌, take}
use Rattle.std.specs.List.{flat_map}
use Rattle.fb_print.specs.Printed.{expr_text, link_text}
use Rattle.fb_print.proofs.printer.Printer.+expr.Given as goal

abbrev pub invariant-exprs-loop-expr : goal.invariant-exprs-loop-expr
invariant-exprs-loop-expr l =
    l.self ≡ l.initial.self ++ flat_map (λ e. l.between ++ expr_text l.wanted e) (take l.expr-index l.rest)

abbrev pub invariant-links-loop-link : goal.invariant-links-loop-link
invariant-links-loop-link l =
    l.self ≡ l.initial.self ++ flat_map (link_text l.wanted) (take l.link-index l.links)
