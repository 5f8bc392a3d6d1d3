-- How many statements a statement of the code has inside it.
use Rattle.std.proofs.Common.{◌≡◌, ℕ, ◌+◌, ◌≤◌, List, map, Option, Some, None, ap, arith}
use Rattle.fb_syntax.specs.declared.expr.Expr.{Expr}
use Rattle.fb_syntax.specs.declared.stmt.Stmt as stmt
use Rattle.fb_syntax.specs.declared.stmt.Block.{Block}
use Rattle.fb_syntax.specs.Views.{view_stmt, view_block, view_handler, handlers_of}
use Rattle.fb_syntax.specs.ViewEquations.{view_if_alone, view_if_else, view_repeat, view_for, view_call}
use Rattle.fb_syntax.specs.Counts.{summed, summed_handlers, statements_count}

pub count_if_else : (cond : Expr) (yes_block no_block : Block)
    → summed (λ s. 1) (view_stmt (stmt.If cond yes_block (Some no_block))) ≡ 1 + statements_count (view_block yes_block) + statements_count (view_block no_block)
count_if_else cond yes_block no_block = ap (summed (λ s. 1)) (view_if_else cond yes_block no_block)

pub count_if : (cond : Expr) (yes_block : Block) (no_block : Option Block)
    → 1 + statements_count (view_block yes_block) ≤ summed (λ s. 1) (view_stmt (stmt.If cond yes_block no_block))
count_if cond yes_block None =
    let counted : summed (λ s. 1) (view_stmt (stmt.If cond yes_block None)) ≡ 1 + statements_count (view_block yes_block) =
    ap (summed (λ s. 1)) (view_if_alone cond yes_block) in
    omega arith
count_if cond yes_block (Some no_block) = omega (arith, count_if_else cond yes_block no_block)

pub count_repeat : (times : ℕ) (body : Block) → summed (λ s. 1) (view_stmt (stmt.Repeat times body)) ≡ 1 + statements_count (view_block body)
count_repeat times body = ap (summed (λ s. 1)) (view_repeat times body)

pub count_for : (name : List ℕ) (over : Expr) (body : Block) → summed (λ s. 1) (view_stmt (stmt.For name over body)) ≡ 1 + statements_count (view_block body)
count_for name over body = ap (summed (λ s. 1)) (view_for name over body)

pub count_call : (name service method : List ℕ) (args handlers : _)
    → summed (λ s. 1) (view_stmt (stmt.Call name service method args handlers)) ≡ 1 + summed_handlers (λ s. 1) (handlers_of (map view_handler handlers.items))
count_call name service method args handlers = ap (summed (λ s. 1)) (view_call name service method args handlers)
