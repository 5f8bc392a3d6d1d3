-- The texts of statements, by the vectors that the code's trees hold.
use Rattle.std.proofs.Common.{◌≡◌, ℕ, suc, ◌==◌, true, false, rules, length, List, [], ◌∷◌, ◌++◌, map, Option, Some, None, codes, refl, ap, sym, ◌∙◌, append_assoc, append-nil}
use Rattle.std.specs.List.{flat_map}
use Rattle.std.specs.declared.vec.Vec.{Vec}
use Rattle.std.specs.declared.alloc.Global.{Global}
use Rattle.fb_syntax.specs.declared.expr.Expr.{Expr}
use Rattle.fb_syntax.specs.declared.stmt.Stmt.{Stmt}
use Rattle.fb_syntax.specs.declared.stmt.Stmt as stmt
use Rattle.fb_syntax.specs.declared.stmt.Block.{Block}
use Rattle.fb_syntax.specs.declared.stmt.Handler.{Handler}
use Rattle.fb_syntax.specs.declared.reserved.Reserved.TheVariants as word
use Rattle.fb_syntax.specs.declared.sign.Sign.TheVariants as sign
use Rattle.fb_syntax.specs.Views.{view_expr, view_stmt, view_block, view_handler, expressions_of, statements_of, handlers_of}
use Rattle.fb_syntax.specs.declared.levels.Level.TheVariants as level
use Rattle.fb_print.specs.Items.{Blank, Line, keyword, sign, spelling, items_text}
use Rattle.fb_print.specs.Statements.{whole_items, repeat_head, for_head, call_items, statement_items, lines, handlers_items, block_items, else_items, handler_items, after_items}
use Rattle.fb_print.specs.Printed.{expr_text, line_text, block_text, else_text, handler_text}
use Rattle.fb_print.proofs.ExpressionTexts.{items_text-append}
use Rattle.fb_syntax.specs.ViewEquations.{view_if_alone, view_if_else, view_repeat, view_for, view_call}

pub lines_text : (depth : ℕ) (stmts : List Stmt) → items_text (lines depth (statements_of (map view_stmt stmts))) ≡ flat_map (line_text depth) stmts
unfolding statement_items lines
lines_text depth [] = refl
lines_text depth (s ∷ ss) =
    ap (λ l. spelling (Line depth) ++ l) (items_text-append (statement_items depth (view_stmt s)) (lines depth (statements_of (map view_stmt ss))))
    ∙ sym (append_assoc (spelling (Line depth)) (items_text (statement_items depth (view_stmt s))) (items_text (lines depth (statements_of (map view_stmt ss)))))
    ∙ ap (λ l. line_text depth s ++ l) (lines_text depth ss)

pub handlers_text : (depth : ℕ) (handlers : List Handler) → items_text (handlers_items depth (handlers_of (map view_handler handlers))) ≡ flat_map (handler_text depth) handlers
unfolding statement_items handlers_items
handlers_text depth [] = refl
handlers_text depth (handler ∷ handlers) =
    items_text-append (handler_items depth (view_handler handler)) (handlers_items depth (handlers_of (map view_handler handlers)))
    ∙ ap (λ l. handler_text depth handler ++ l) (handlers_text depth handlers)

pub block_lines : (depth : ℕ) (block : Block)
    → codes " {" ++ (flat_map (line_text (suc depth)) block.stmts.items ++ (spelling (Line depth) ++ codes "}")) ≡ block_text depth block
block_lines depth block =
    ap (λ l. codes " {" ++ l)
    (sym (items_text-append (lines (suc depth) (view_block block)) (Line depth ∷ sign sign.CloseBrace ∷ [])
    ∙ ap (λ l. l ++ (spelling (Line depth) ++ codes "}")) (lines_text (suc depth) block.stmts.items)))

pub if_text : (depth : ℕ) (cond : Expr) (yes_block : Block) (no_block : Option Block)
    → items_text (statement_items depth (view_stmt (stmt.If cond yes_block no_block)))
    ≡ codes "if " ++ expr_text level.Expr cond ++ (block_text depth yes_block ++ else_text depth no_block)
unfolding statement_items
if_text depth cond yes_block None =
    ap (λ s. items_text (statement_items depth s)) (view_if_alone cond yes_block)
    ∙ items_text-append (keyword word.If ∷ Blank ∷ whole_items (view_expr cond)) (block_items depth (view_block yes_block))
    ∙ ap (λ l. items_text (keyword word.If ∷ Blank ∷ whole_items (view_expr cond)) ++ l) (sym (append-nil (block_text depth yes_block)))
if_text depth cond yes_block (Some no_block) =
    let head = keyword word.If ∷ Blank ∷ whole_items (view_expr cond) in
    ap (λ s. items_text (statement_items depth s)) (view_if_else cond yes_block no_block)
    ∙ items_text-append (head ++ block_items depth (view_block yes_block)) (else_items depth (Some (view_block no_block)))
    ∙ ap (λ l. l ++ else_text depth (Some no_block)) (items_text-append head (block_items depth (view_block yes_block)))
    ∙ append_assoc (items_text head) (block_text depth yes_block) (else_text depth (Some no_block))

pub repeat_text : (depth times : ℕ) (body : Block)
    → items_text (statement_items depth (view_stmt (stmt.Repeat times body))) ≡ items_text (repeat_head times) ++ block_text depth body
unfolding statement_items
repeat_text depth times body =
    ap (λ s. items_text (statement_items depth s)) (view_repeat times body) ∙ items_text-append (repeat_head times) (block_items depth (view_block body))

pub for_text : (depth : ℕ) (name : List ℕ) (over : Expr) (body : Block)
    → items_text (statement_items depth (view_stmt (stmt.For name over body))) ≡ items_text (for_head name (view_expr over)) ++ block_text depth body
unfolding statement_items
for_text depth name over body =
    ap (λ s. items_text (statement_items depth s)) (view_for name over body) ∙ items_text-append (for_head name (view_expr over)) (block_items depth (view_block body))

pub call_text : (depth : ℕ) (name service method : List ℕ) (args : Vec Expr Global) (handlers : Vec Handler Global)
    → items_text (statement_items depth (view_stmt (stmt.Call name service method args handlers)))
    ≡ items_text (call_items name service method (expressions_of (map view_expr args.items))) ++ items_text (after_items depth (handlers_of (map view_handler handlers.items)))
unfolding statement_items
call_text depth name service method args handlers =
    ap (λ s. items_text (statement_items depth s)) (view_call name service method args handlers)
    ∙ items_text-append (call_items name service method (expressions_of (map view_expr args.items))) (after_items depth (handlers_of (map view_handler handlers.items)))

pub after_none : (depth : ℕ) (handlers : List Handler) → (length handlers == 0) ≡ true → codes ";" ≡ items_text (after_items depth (handlers_of (map view_handler handlers)))
unfolding statement_items handlers_items
after_none depth [] none = refl
after_none depth (handler ∷ handlers) none = absurd (search rules)

pub after_some : (depth : ℕ) (handlers : List Handler) → (length handlers == 0) ≡ false → flat_map (handler_text depth) handlers ≡ items_text (after_items depth (handlers_of (map view_handler handlers)))
unfolding statement_items handlers_items
after_some depth [] some = absurd (search rules)
after_some depth (handler ∷ handlers) some =
    sym (items_text-append (handlers_items depth (handlers_of (map view_handler (handler ∷ handlers)))) [] ∙ append-nil _ ∙ handlers_text depth (handler ∷ handlers))
