-- The plain tree of each tree of the code, which forgets where its parts lie in memory.
use Rattle.std.specs.declared.vec.Vec.{Vec}
use Rattle.std.specs.declared.alloc.Global.{Global}
use Rattle.std.specs.Prelude.{ℕ, List, [], ◌∷◌, map, Option}
use Rattle.fb_base.specs.declared.operator.Op2.{Op2}
use Rattle.fb_syntax.specs.declared.levels.Junction.{Junction}
use Rattle.fb_syntax.specs.declared.levels.Junction.TheVariants as junction
use Rattle.fb_syntax.specs.declared.expr.Expr as expr
use Rattle.fb_syntax.specs.declared.expr.Expr.{Expr, Row_of-Expr, end_of-Expr, more_of-Expr, Row_of-Link, end_of-Link, more_of-Link}
use Rattle.fb_syntax.specs.declared.expr.Link.{Link}
use Rattle.fb_syntax.specs.declared.stmt.Stmt as stmt
use Rattle.fb_syntax.specs.declared.stmt.Stmt.{Stmt, Held-Stmt-If-2, Row_of-Stmt, end_of-Stmt, more_of-Stmt, Row_of-Handler, end_of-Handler, more_of-Handler}
use Rattle.fb_syntax.specs.declared.stmt.Block.{Block}
use Rattle.fb_syntax.specs.declared.stmt.Handler.{Handler}
use Rattle.fb_syntax.specs.declared.services.Services.{Services}
use Rattle.fb_syntax.specs.declared.services.Service.{Service}
use Rattle.fb_syntax.specs.declared.services.Method.{Method}
use Rattle.fb_syntax.specs.declared.services.Param.{Param}
use Rattle.fb_syntax.specs.declared.test.Test.{Test}
use Rattle.fb_syntax.specs.Trees.{Expression, IntLiteral, TextLiteral, BoolLiteral, Variable, ListLiteral, Length, ItemAt, Negative, Not, Comparison, Chain, Conjunction, Disjunction, Injected, InjectedOn, Expressions, NoExpressions, AndExpressions, Links, NoLinks, AndLinks}
use Rattle.fb_syntax.specs.Trees.{Statement, Let, Assign, If, IfElse, Repeat, For, Break, Return, Fail, Call, Assert, Statements, NoStatements, AndStatements, Handlers, NoHandlers, AndHandlers}
use Rattle.fb_syntax.specs.Trees.{Parameter, MethodTree, ServiceTree, ServicesTree, TestTree}

unfoldable mutual
  pub view_expr : Expr → Expression
  view_expr (expr.Int n) = IntLiteral n
  view_expr (expr.Text t) = TextLiteral t
  view_expr (expr.Bool b) = BoolLiteral b
  view_expr (expr.Var name) = Variable name
  view_expr (expr.List' base shape items) = ListLiteral base (view_exprs items)
  view_expr (expr.Len' p e) = Length (view_expr e)
  view_expr (expr.At' p list q place) = ItemAt (view_expr list) (view_expr place)
  view_expr (expr.Neg' p e) = Negative (view_expr e)
  view_expr (expr.Not' p e) = Not (view_expr e)
  view_expr (expr.Compare' op p left q right) = Comparison op (view_expr left) (view_expr right)
  view_expr (expr.Chain' p first shape rest) = Chain (view_expr first) (view_links rest)
  view_expr (expr.All' shape items) = Conjunction (view_exprs items)
  view_expr (expr.Any' shape items) = Disjunction (view_exprs items)
  view_expr expr.Injected = Injected
  view_expr (expr.InjectedOn service method) = InjectedOn service method

  pub view_exprs : {n : _} → Row_of-Expr n → Expressions
  view_exprs end_of-Expr = NoExpressions
  view_exprs (more_of-Expr e rest) = AndExpressions (view_expr e) (view_exprs rest)

  pub view_links : {n : _} → Row_of-Link n → Links
  view_links end_of-Link = NoLinks
  view_links (more_of-Link op right rest) = AndLinks op (view_expr right) (view_links rest)

-- a list of expressions, as the data that a tree holds
abbrev pub expressions_of : List Expression → Expressions
expressions_of [] = NoExpressions
expressions_of (e ∷ es) = AndExpressions e (expressions_of es)

abbrev pub links_of : List (Op2 × Expression) → Links
links_of [] = NoLinks
links_of (link ∷ links) = AndLinks link.0 link.1 (links_of links)

-- operands with a word between them
abbrev pub junction_of : Junction → List Expression → Expression
junction_of junction.And operands = Conjunction (expressions_of operands)
junction_of junction.Or operands = Disjunction (expressions_of operands)

abbrev pub view_link : Link → Op2 × Expression
view_link link = (link.op, view_expr link.right)

unfoldable mutual
  pub view_stmt : Stmt → Statement
  view_stmt (stmt.Let name value) = Let name (view_expr value)
  view_stmt (stmt.Assign name value) = Assign name (view_expr value)
  view_stmt (stmt.If' cond shape yes_block no_block) = view_if (view_expr cond) (view_stmts yes_block) no_block
  view_stmt (stmt.Repeat' times shape body) = Repeat times (view_stmts body)
  view_stmt (stmt.For' name over shape body) = For name (view_expr over) (view_stmts body)
  view_stmt stmt.Break = Break
  view_stmt (stmt.Return value) = Return (view_expr value)
  view_stmt (stmt.Fail code) = Fail code
  view_stmt (stmt.Call' name service method args shape handlers) =
      Call name service method (expressions_of (map view_expr args.items)) (view_handlers handlers)
  view_stmt (stmt.Assert cond) = Assert (view_expr cond)

  pub view_if : Expression → Statements → Held-Stmt-If-2 → Statement
  view_if cond yes_block stmt.None' = If cond yes_block
  view_if cond yes_block (stmt.Some' shape no_block) = IfElse cond yes_block (view_stmts no_block)

  pub view_stmts : {n : _} → Row_of-Stmt n → Statements
  view_stmts end_of-Stmt = NoStatements
  view_stmts (more_of-Stmt s rest) = AndStatements (view_stmt s) (view_stmts rest)

  pub view_handlers : {n : _} → Row_of-Handler n → Handlers
  view_handlers end_of-Handler = NoHandlers
  view_handlers (more_of-Handler code shape body rest) = AndHandlers code (view_stmts body) (view_handlers rest)

abbrev pub statements_of : List Statement → Statements
statements_of [] = NoStatements
statements_of (s ∷ ss) = AndStatements s (statements_of ss)

abbrev pub handlers_of : List (Option (List ℕ) × Statements) → Handlers
handlers_of [] = NoHandlers
handlers_of (handler ∷ handlers) = AndHandlers handler.0 handler.1 (handlers_of handlers)

abbrev pub view_block : Block → Statements
view_block block = statements_of (map view_stmt block.stmts.items)

abbrev pub view_handler : Handler → Option (List ℕ) × Statements
view_handler handler = (handler.code, view_block handler.body)

abbrev pub view_param : Param → Parameter
view_param param = record { name = param.name; kind = param.kind }

abbrev pub view_method : Method → MethodTree
view_method method =
    record { name = method.name; params = map view_param method.params.items; gives = method.gives; body = view_block method.body }

abbrev pub view_service : Service → ServiceTree
view_service service = record { name = service.name; methods = map view_method service.methods.items }

abbrev pub view_services : Services → ServicesTree
view_services services = record { services = map view_service services.list.items }

abbrev pub view_test : Test → TestTree
view_test test = record { name = test.name; body = view_block test.body }

abbrev pub view_items : Vec Expr Global → List Expression
view_items items = map view_expr items.items

abbrev pub view_rest : Vec Link Global → List (Op2 × Expression)
view_rest links = map view_link links.items

abbrev pub view_stmt_list : Vec Stmt Global → List Statement
view_stmt_list stmts = map view_stmt stmts.items

abbrev pub view_handler_list : Vec Handler Global → List (Option (List ℕ) × Statements)
view_handler_list handlers = map view_handler handlers.items

abbrev pub view_param_list : Vec Param Global → List Parameter
view_param_list params = map view_param params.items

abbrev pub view_method_list : Vec Method Global → List MethodTree
view_method_list methods = map view_method methods.items

abbrev pub view_service_list : Vec Service Global → List ServiceTree
view_service_list services = map view_service services.items
