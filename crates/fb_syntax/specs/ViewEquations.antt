-- The plain tree of a tree that holds vectors, by the items of the vectors.
use Rattle.std.proofs.Common.{◌≡◌, ℕ, List, map, Some, None, refl, sym, ap, ◌∙◌}
use Rattle.fb_base.specs.declared.kind.Kind.{Kind}
use Rattle.fb_syntax.specs.declared.expr.Expr as expr
use Rattle.fb_syntax.specs.declared.expr.Expr.{Expr, Row_of-Expr, end_of-Expr, more_of-Expr, items-the_row-Expr, items_hidden-the_row-Expr-0, Row_of-Link, end_of-Link, more_of-Link, items-the_row-Link, items_hidden-the_row-Link-1}
use Rattle.fb_syntax.specs.declared.expr.Expr.TheBlock.{hidden-the_row-Expr-0, hidden-the_row-Link-1}
use Rattle.fb_syntax.specs.declared.stmt.Stmt as stmt
use Rattle.fb_syntax.specs.declared.stmt.Stmt.{Row_of-Stmt, end_of-Stmt, more_of-Stmt, items-the_row-Stmt, items_hidden-the_row-Stmt-0, Row_of-Handler, end_of-Handler, more_of-Handler, items-the_row-Handler, items_hidden-the_row-Handler-1}
use Rattle.fb_syntax.specs.declared.stmt.Stmt.TheBlock.{hidden-the_row-Stmt-0, hidden-the_row-Handler-1, shown-the_row-Stmt-0, items_shown-the_row-Stmt-0}
use Rattle.fb_syntax.specs.Trees.{AndExpressions, AndLinks, ListLiteral, Chain, Conjunction, Disjunction, If, IfElse, Repeat, For, Call, AndStatements, AndHandlers}
use Rattle.fb_syntax.specs.Views.{view_expr, view_exprs, view_links, view_link, expressions_of, links_of, view_stmt, view_if, view_stmts, view_handlers, view_block, view_handler, statements_of, handlers_of}

row_exprs : {n : _} (row : Row_of-Expr n) → view_exprs row ≡ expressions_of (map view_expr (items-the_row-Expr n row))
unfolding view_expr view_exprs view_links
row_exprs end_of-Expr = refl
row_exprs (more_of-Expr e rest) = ap (AndExpressions (view_expr e)) (row_exprs rest)

row_links : {n : _} (row : Row_of-Link n) → view_links row ≡ links_of (map view_link (items-the_row-Link n row))
unfolding view_expr view_exprs view_links
row_links end_of-Link = refl
row_links (more_of-Link op right rest) = ap (AndLinks op (view_expr right)) (row_links rest)

vec_exprs : (items : _) → view_exprs (hidden-the_row-Expr-0 items) ≡ expressions_of (map view_expr items.items)
vec_exprs items = row_exprs (hidden-the_row-Expr-0 items) ∙ ap (λ es. expressions_of (map view_expr es)) (items_hidden-the_row-Expr-0 items)

vec_links : (links : _) → view_links (hidden-the_row-Link-1 links) ≡ links_of (map view_link links.items)
vec_links links = row_links (hidden-the_row-Link-1 links) ∙ ap (λ ls. links_of (map view_link ls)) (items_hidden-the_row-Link-1 links)

pub view_list : (base : Kind) (items : _) → view_expr (expr.List base items) ≡ ListLiteral base (expressions_of (map view_expr items.items))
unfolding view_expr view_exprs view_links
view_list base items = ap (ListLiteral base) (vec_exprs items)

pub view_chain : (first rest : _) → view_expr (expr.Chain first rest) ≡ Chain (view_expr first.value) (links_of (map view_link rest.items))
unfolding view_expr view_exprs view_links
view_chain first rest = ap (Chain (view_expr first.value)) (vec_links rest)

pub view_all : (items : _) → view_expr (expr.All items) ≡ Conjunction (expressions_of (map view_expr items.items))
unfolding view_expr view_exprs view_links
view_all items = ap Conjunction (vec_exprs items)

pub view_any : (items : _) → view_expr (expr.Any items) ≡ Disjunction (expressions_of (map view_expr items.items))
unfolding view_expr view_exprs view_links
view_any items = ap Disjunction (vec_exprs items)

row_stmts : {n : _} (row : Row_of-Stmt n) → view_stmts row ≡ statements_of (map view_stmt (items-the_row-Stmt n row))
unfolding view_stmt view_if view_stmts view_handlers
row_stmts end_of-Stmt = refl
row_stmts (more_of-Stmt s rest) = ap (AndStatements (view_stmt s)) (row_stmts rest)

vec_stmts : (stmts : _) → view_stmts (hidden-the_row-Stmt-0 stmts) ≡ statements_of (map view_stmt stmts.items)
vec_stmts stmts = row_stmts (hidden-the_row-Stmt-0 stmts) ∙ ap (λ ss. statements_of (map view_stmt ss)) (items_hidden-the_row-Stmt-0 stmts)

pub view_if_alone : (cond yes_block : _) → view_stmt (stmt.If cond yes_block None) ≡ If (view_expr cond) (view_block yes_block)
unfolding view_stmt view_if view_stmts view_handlers
view_if_alone cond yes_block = ap (If (view_expr cond)) (vec_stmts yes_block.stmts)

pub view_if_else : (cond yes_block no_block : _) → view_stmt (stmt.If cond yes_block (Some no_block)) ≡ IfElse (view_expr cond) (view_block yes_block) (view_block no_block)
unfolding view_stmt view_if view_stmts view_handlers
view_if_else cond yes_block no_block =
    ap (λ b. IfElse (view_expr cond) b (view_stmts (hidden-the_row-Stmt-0 no_block.stmts))) (vec_stmts yes_block.stmts)
    ∙ ap (IfElse (view_expr cond) (view_block yes_block)) (vec_stmts no_block.stmts)

pub view_repeat : (times : ℕ) (body : _) → view_stmt (stmt.Repeat times body) ≡ Repeat times (view_block body)
unfolding view_stmt view_if view_stmts view_handlers
view_repeat times body = ap (Repeat times) (vec_stmts body.stmts)

pub view_for : (name : List ℕ) (over body : _) → view_stmt (stmt.For name over body) ≡ For name (view_expr over) (view_block body)
unfolding view_stmt view_if view_stmts view_handlers
view_for name over body = ap (For name (view_expr over)) (vec_stmts body.stmts)

-- a row of handlers keeps each body as a row
row_handlers : {n : _} (row : Row_of-Handler n) → view_handlers row ≡ handlers_of (map view_handler (items-the_row-Handler n row))
unfolding view_stmt view_if view_stmts view_handlers
row_handlers end_of-Handler = refl
row_handlers (more_of-Handler code shape body rest) =
    ap (λ b. AndHandlers code b (view_handlers rest)) (row_stmts body ∙ sym (ap (λ ss. statements_of (map view_stmt ss)) (items_shown-the_row-Stmt-0 shape body)))
    ∙ ap (AndHandlers code (view_block (record { stmts = shown-the_row-Stmt-0 shape body }))) (row_handlers rest)

vec_handlers : (handlers : _) → view_handlers (hidden-the_row-Handler-1 handlers) ≡ handlers_of (map view_handler handlers.items)
vec_handlers handlers = row_handlers (hidden-the_row-Handler-1 handlers) ∙ ap (λ hs. handlers_of (map view_handler hs)) (items_hidden-the_row-Handler-1 handlers)

pub view_call : (name service method : List ℕ) (args handlers : _)
    → view_stmt (stmt.Call name service method args handlers) ≡ Call name service method (expressions_of (map view_expr args.items)) (handlers_of (map view_handler handlers.items))
unfolding view_stmt view_if view_stmts view_handlers
view_call name service method args handlers = ap (Call name service method (expressions_of (map view_expr args.items))) (vec_handlers handlers)
