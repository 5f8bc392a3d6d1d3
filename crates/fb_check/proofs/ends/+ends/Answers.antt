use Rattle.std.proofs.Common.{◌≡◌, Bool, true, false, ◌&&◌, ap, sym, ◌∙◌}
use Rattle.fb_syntax.specs.Views.{view_block}
use Rattle.fb_syntax.specs.ViewEquations.{view_if_else}
use Rattle.fb_check.specs.Ends.{block_ends}
use Rattle.fb_check.proofs.ends.+ends.Goals as goal

second_of : (first second found : Bool) → true ≡ first → found ≡ second → found ≡ (first && second)
second_of first second found yes_first is = is ∙ ap (λ b. b && second) yes_first

first_of_two : (first second found : Bool) → false ≡ first → found ≡ first → found ≡ (first && second)
first_of_two first second found no_first is = is ∙ sym no_first ∙ ap (λ b. b && second) no_first

pub statement_ends-returns-then-block_ends : goal.statement_ends-returns-then-block_ends
statement_ends-returns-then-block_ends t c =
    rw (c.in-If.is, c.in-Some.is, view_if_else c.in-If.cond c.in-If.yes c.in-Some.no)
    (second_of (block_ends (view_block c.in-If.yes)) (block_ends (view_block c.in-Some.no)) c.block_ends-then-block_ends.result c.if-block_ends.ensures c.block_ends-then-block_ends.ensures)

pub statement_ends-returns-else-block_ends : goal.statement_ends-returns-else-block_ends
statement_ends-returns-else-block_ends t c =
    rw (c.in-If.is, c.in-Some.is, view_if_else c.in-If.cond c.in-If.yes c.in-Some.no)
    (first_of_two (block_ends (view_block c.in-If.yes)) (block_ends (view_block c.in-Some.no)) c.block_ends.result c.if-block_ends.ensures c.block_ends.ensures)
