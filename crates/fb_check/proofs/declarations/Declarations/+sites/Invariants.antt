use Rattle.std.proofs.Common.{◌≡◌, ◌++◌, drop, map}
use Rattle.fb_syntax.specs.Views.{view_stmt, view_block, view_handler, statements_of, handlers_of}
use Rattle.fb_check.specs.Sites.{sites, handler_sites, callee_numbers}
use Rattle.fb_check.proofs.declarations.Declarations.+sites.Given as goal

-- what is found so far and the sites that are left are all sites
abbrev pub invariant-add_sites-loop-stmt : goal.invariant-add_sites-loop-stmt
invariant-add_sites-loop-stmt l =
    l.found ++ callee_numbers l.self (sites (statements_of (map view_stmt (drop l.stmt-index l.stmt-items))))
    ≡ l.initial.found ++ callee_numbers l.self (sites (view_block l.block))

abbrev pub invariant-add_handler_sites-loop-handler : goal.invariant-add_handler_sites-loop-handler
invariant-add_handler_sites-loop-handler l =
    l.found ++ callee_numbers l.self (handler_sites (handlers_of (map view_handler (drop l.handler-index l.handlers))))
    ≡ l.initial.found ++ callee_numbers l.self (handler_sites (handlers_of (map view_handler l.handlers)))
