-- The canonical texts of the code's trees, of which the texts of whole files are made.
use Rattle.std.specs.Prelude.{ℕ, List, ◌++◌, map, Option}
use Rattle.std.specs.Option.{option_map}
use Rattle.fb_syntax.specs.declared.expr.Expr.{Expr}
use Rattle.fb_syntax.specs.declared.expr.Link.{Link}
use Rattle.fb_syntax.specs.declared.stmt.Stmt.{Stmt}
use Rattle.fb_syntax.specs.declared.stmt.Block.{Block}
use Rattle.fb_syntax.specs.declared.stmt.Handler.{Handler}
use Rattle.fb_syntax.specs.declared.services.Service.{Service}
use Rattle.fb_syntax.specs.declared.services.Method.{Method}
use Rattle.fb_syntax.specs.declared.services.Param.{Param}
use Rattle.fb_syntax.specs.Views.{view_expr, view_stmt, view_block, view_handler, view_param, view_method, view_service, expressions_of}
use Rattle.fb_syntax.specs.declared.levels.Level.{Level}
use Rattle.fb_syntax.specs.declared.levels.Level.TheVariants as level
use Rattle.fb_print.specs.Items.{Line, spelling, items_text, comma_separated}
use Rattle.fb_print.specs.Expressions.{operator_items, expression_items, each_placed}
use Rattle.fb_print.specs.Statements.{statement_items, block_items, else_items, handler_items}
use Rattle.fb_print.specs.Services.{param_items, method_items, service_items}

-- ---- expressions

-- where the grammar reads this level
abbrev pub expr_text : Level → Expr → List ℕ
expr_text wanted e = items_text (expression_items wanted (view_expr e))

-- an operator and its second operand
abbrev pub link_text : Level → Link → List ℕ
link_text wanted link = items_text (operator_items link.op) ++ expr_text wanted link.right

-- with commas between them
abbrev pub listed_text : List Expr → List ℕ
listed_text es = items_text (comma_separated (each_placed level.Expr (expressions_of (map view_expr es))))

-- ---- statements

-- on a line of its own
abbrev pub line_text : ℕ → Stmt → List ℕ
line_text depth stmt = spelling (Line depth) ++ items_text (statement_items depth (view_stmt stmt))

abbrev pub block_text : ℕ → Block → List ℕ
block_text depth block = items_text (block_items depth (view_block block))

abbrev pub else_text : ℕ → Option Block → List ℕ
else_text depth block = items_text (else_items depth (option_map view_block block))

abbrev pub handler_text : ℕ → Handler → List ℕ
handler_text depth handler = items_text (handler_items depth (view_handler handler))

-- ---- services

abbrev pub param_text : Param → List ℕ
param_text param = items_text (param_items (view_param param))

-- on lines of its own
abbrev pub method_text : Method → List ℕ
method_text method = spelling (Line 1) ++ items_text (method_items (view_method method))

abbrev pub service_text : Service → List ℕ
service_text service = items_text (service_items (view_service service))
