use Rattle.std.proofs.Common.{◌≡◌, [], length}
use Rattle.std.specs.List.{All}
use Rattle.fb_graph.proofs.reversed.empty_lists.Given as goal

abbrev pub invariant-loop : goal.invariant-loop
invariant-loop l = (length l.lists.items ≡ l.counter) × All (λ list. list ≡ []) l.lists.items
