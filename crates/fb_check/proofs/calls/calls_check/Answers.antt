use Rattle.std.proofs.Common.{sym, ◌∙◌}
use Rattle.fb_check.specs.FirstRefusal.{cycle_check}
use Rattle.fb_check.proofs.CallLaws.{first_rank, none-shallow, ranks_found, nothing_refused}
use Rattle.fb_check.proofs.calls.calls_check.Goals as goal

pub returns-in_default-clause-told : goal.returns-in_default-clause-told
returns-in_default-clause-told c =
    let graph = c.args.graph.now in
    let first = first_rank c.chains_are_tested.ensures graph c.in_ok-ranks.ranks c.in_ok-ranks.ensures.len c.in_ok-ranks.ensures.ranks in
    let none = sym (rw c.as_slice.ensures at c.in_default.ensures ∙ first) in
    nothing_refused c.chains_end.ensures c.first_cycle_is_first.ensures graph c.args.declared.now (none-shallow c.chains_are_tested.ensures graph none) none

pub returns-in_default-clause-ranks : goal.returns-in_default-clause-ranks
returns-in_default-clause-ranks c =
    let graph = c.args.graph.now in
    let first = first_rank c.chains_are_tested.ensures graph c.in_ok-ranks.ranks c.in_ok-ranks.ensures.len c.in_ok-ranks.ensures.ranks in
    let none = sym (rw c.as_slice.ensures at c.in_default.ensures ∙ first) in
    ranks_found c.chains_are_tested.ensures graph c.in_ok-ranks.ranks c.in_ok-ranks.ensures.len c.in_ok-ranks.ensures.ranks (none-shallow c.chains_are_tested.ensures graph none)

pub returns-clause-told : goal.returns-clause-told
returns-clause-told c =
    let graph = c.args.graph.now in
    let declared = c.args.declared.now in
    let first = first_rank c.chains_are_tested.ensures graph c.in_ok-ranks.ranks c.in_ok-ranks.ensures.len c.in_ok-ranks.ensures.ranks in
    let deep = sym (rw c.as_slice.ensures at c.in-Some.ensures ∙ first) in
    let found = sym c.in_ok-cycle.ensures.told ∙ c.in_default-2.is in
    rw c.refused_at-2.ensures (λ j. cycle_check declared (found j) (deep j))
