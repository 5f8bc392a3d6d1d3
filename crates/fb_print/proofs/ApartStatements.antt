-- The tokens of canonical statements, services and tests stand apart.
use Rattle.std.proofs.Common.{ℕ, suc, List, [], ◌∷◌, ◌++◌, map, Option, Some, None, refl}
use Rattle.std.specs.List.{flat_map}
use Rattle.fb_base.specs.declared.kind.Kind.{Kind}
use Rattle.fb_syntax.specs.declared.reserved.Reserved.TheVariants as word
use Rattle.fb_syntax.specs.declared.sign.Sign.TheVariants as sign
use Rattle.fb_syntax.specs.Trees.{Expression, Expressions, Statement, Let, Assign, If, IfElse, Repeat, For, Break, Return, Fail, Call, Assert, Statements, NoStatements, AndStatements, Handlers, NoHandlers, AndHandlers}
use Rattle.fb_syntax.specs.Trees.{Parameter, MethodTree, ServiceTree, ServicesTree, TestTree}
use Rattle.fb_syntax.specs.declared.levels.Level.TheVariants as level
use Rattle.fb_print.specs.Items.{Item, Blank, Line, keyword, name, sign, comma_separated}
use Rattle.fb_print.specs.Expressions.{kind_items, each_placed}
use Rattle.fb_print.specs.Statements.{whole_items, assigned, ended, assignment, for_head, call_items, braced, code_item, end_of, statement_items, lines, handlers_items, block_items, else_items, handler_items}
use Rattle.fb_print.specs.Services.{param_items, params_items, gives_items, method_items, service_items, services_items, test_items}
use Rattle.fb_print.proofs.Respelling.{Each}
use Rattle.fb_print.proofs.Apart.{Class, Layout, Free, Dash, Solid, End, Runs, runs_both, runs_wider, runs_end, allows_same, layout_allows, ends}
use Rattle.fb_print.proofs.ApartExpressions.{Stand, behind_free, behind_layout, parenthesized_stand, kind_stands, commas_stand, expression_stands, listed_stand}

-- behind a blank
whole_runs : (e : Expression) → Runs Layout (whole_items e) End
whole_runs e = behind_layout (whole_items e) (expression_stands level.Expr e)

ended_runs : (before : Class) (items : List Item) → Runs before items End → Runs before (ended items) End
ended_runs before items runs = runs_both before End End items (sign sign.Semicolon ∷ []) runs (refl, ends Free)

assignment_runs : (x : List ℕ) (value : Expression) → Runs Layout (assignment x value) End
assignment_runs x value = ended_runs Layout (name x ∷ assigned ++ whole_items value) (refl, (refl, (refl, (refl, whole_runs value))))

-- a block may follow anything
braced_runs : (before : Class) (depth : ℕ) (items : List Item) → Runs Free items End → Runs before (braced depth items) End
braced_runs before depth items runs = (refl, (refl, runs_both Free End End items (Line depth ∷ sign sign.CloseBrace ∷ []) runs (refl, (refl, ends Free))))

end_runs : (handlers : Handlers) → Runs End (end_of handlers) End
end_runs NoHandlers = (refl, ends Free)
end_runs (AndHandlers code body more) = allows_same End

code_runs : (code : Option (List ℕ)) → Runs Layout (code_item code ∷ []) Solid
code_runs None = (refl, allows_same Solid)
code_runs (Some code) = (refl, allows_same Solid)

call_runs : (x service method : List ℕ) (args : Expressions) → Runs Layout (call_items x service method args) End
call_runs x service method args =
    let listed = comma_separated (each_placed level.Expr args) in
    (refl, (refl, (refl, (refl, (refl, (refl, (refl, (refl, (refl, parenthesized_stand Solid listed (behind_free listed (listed_stand args)))))))))))

mutual
  unfolding statement_items lines handlers_items

  statement_runs : (depth : ℕ) (s : Statement) → Runs Layout (statement_items depth s) End
  statement_runs depth (Let x value) = (refl, (refl, assignment_runs x value))
  statement_runs depth (Assign x value) = assignment_runs x value
  statement_runs depth (If cond body) =
      runs_both Layout End End (keyword word.If ∷ Blank ∷ whole_items cond) (block_items depth body) (refl, (refl, whole_runs cond))
      (braced_runs End depth (lines (suc depth) body) (lines_run Free (suc depth) body))
  statement_runs depth (IfElse cond body other) =
      let head = keyword word.If ∷ Blank ∷ whole_items cond in
      runs_both Layout End End (head ++ block_items depth body) (else_items depth (Some other))
      (runs_both Layout End End head (block_items depth body) (refl, (refl, whole_runs cond)) (braced_runs End depth (lines (suc depth) body) (lines_run Free (suc depth) body)))
      (refl, (refl, braced_runs Solid depth (lines (suc depth) other) (lines_run Free (suc depth) other)))
  statement_runs depth (Repeat times body) = (refl, (refl, (refl, braced_runs Solid depth (lines (suc depth) body) (lines_run Free (suc depth) body))))
  statement_runs depth (For x over body) =
      runs_both Layout End End (for_head x over) (block_items depth body) (refl, (refl, (refl, (refl, (refl, (refl, whole_runs over))))))
      (braced_runs End depth (lines (suc depth) body) (lines_run Free (suc depth) body))
  statement_runs depth Break = (refl, (refl, ends Free))
  statement_runs depth (Return value) = ended_runs Layout (keyword word.Return ∷ Blank ∷ whole_items value) (refl, (refl, whole_runs value))
  statement_runs depth (Fail code) = (refl, (refl, (refl, (refl, ends Free))))
  statement_runs depth (Call x service method args handlers) =
      runs_both Layout End End (call_items x service method args) (handlers_items depth handlers ++ end_of handlers) (call_runs x service method args)
      (runs_both End End End (handlers_items depth handlers) (end_of handlers) (handlers_run depth handlers) (end_runs handlers))
  statement_runs depth (Assert cond) = ended_runs Layout (keyword word.Assert ∷ Blank ∷ whole_items cond) (refl, (refl, whole_runs cond))

  lines_run : (before : Class) (depth : ℕ) (ss : Statements) → Runs before (lines depth ss) End
  lines_run before depth NoStatements = ends before
  lines_run before depth (AndStatements s ss) =
      (refl, runs_both Layout End End (statement_items depth s) (lines depth ss) (statement_runs depth s) (lines_run End depth ss))

  handlers_run : (depth : ℕ) (handlers : Handlers) → Runs End (handlers_items depth handlers) End
  handlers_run depth NoHandlers = allows_same End
  handlers_run depth (AndHandlers code body handlers) =
      runs_both End End End (handler_items depth (code, body)) (handlers_items depth handlers) (
        refl,
        (
          refl,
          (
            refl,
            runs_both Layout Solid End (code_item code ∷ []) (block_items depth body) (code_runs code)
                (braced_runs Solid depth (lines (suc depth) body) (lines_run Free (suc depth) body)),
          ),
        ),
      )
      (handlers_run depth handlers)

body_runs : (before : Class) (depth : ℕ) (body : Statements) → Runs before (block_items depth body) End
body_runs before depth body = braced_runs before depth (lines (suc depth) body) (lines_run Free (suc depth) body)

-- ---- services and tests

-- behind a blank
kind_runs : (k : Kind) → Runs Layout (kind_items k) End
kind_runs k = runs_end Layout Solid (kind_items k) (runs_wider Layout Dash Solid (kind_items k) (layout_allows Dash) (kind_stands k))

param_stands : (param : Parameter) → Stand (param_items param)
param_stands param = (refl, (refl, (refl, kind_runs param.kind)))

params_stand : (params : List Parameter) → Each Stand (map param_items params)
params_stand [] = tt
params_stand (param ∷ params) = (param_stands param, params_stand params)

method_runs : (method : MethodTree) → Runs Layout (method_items method) End
method_runs method =
    let listed = comma_separated (map param_items method.params) in
    let head = keyword word.Method ∷ Blank ∷ name method.name ∷ params_items method.params in
    runs_both Layout End End (head ++ gives_items method.gives) (block_items 1 method.body)
    (runs_both Layout End End head (gives_items method.gives)
    (refl, (refl, (refl, parenthesized_stand Solid listed (behind_free listed (commas_stand (map param_items method.params) (params_stand method.params))))))
    (refl, (refl, (refl, kind_runs method.gives))))
    (body_runs End 1 method.body)

methods_run : (before : Class) (methods : List MethodTree) → Runs before (flat_map (λ method. Line 1 ∷ method_items method) methods) End
methods_run before [] = ends before
methods_run before (method ∷ methods) =
    (refl, runs_both Layout End End (method_items method) (flat_map (λ other. Line 1 ∷ method_items other) methods) (method_runs method) (methods_run End methods))

-- ended with a line
line_end : Runs End (Line 0 ∷ []) Layout
line_end = (refl, allows_same Layout)

service_runs : (service : ServiceTree) → Runs Layout (service_items service) Layout
service_runs service =
    let methods = flat_map (λ method. Line 1 ∷ method_items method) service.methods in
    runs_both Layout End Layout (keyword word.Service ∷ Blank ∷ name service.name ∷ braced 0 methods) (Line 0 ∷ [])
    (refl, (refl, (refl, braced_runs Solid 0 methods (methods_run Free service.methods)))) line_end

each_service_runs : (services : List ServiceTree) → Runs Layout (flat_map service_items services) Layout
each_service_runs [] = allows_same Layout
each_service_runs (service ∷ services) =
    runs_both Layout Layout Layout (service_items service) (flat_map service_items services) (service_runs service) (each_service_runs services)

pub services_run : (tree : ServicesTree) → Runs Layout (services_items tree) Layout
services_run tree = each_service_runs tree.services

pub test_runs : (test : TestTree) → Runs Layout (test_items test) Layout
test_runs test =
    runs_both Layout End Layout (keyword word.Test ∷ Blank ∷ name test.name ∷ block_items 0 test.body) (Line 0 ∷ [])
    (refl, (refl, (refl, body_runs Solid 0 test.body))) line_end
