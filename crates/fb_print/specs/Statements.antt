-- The canonical spelling of statements. Each has a line of its own; `else` and each handler follow on the line of the
-- closing brace.
use Rattle.std.specs.Prelude.{ℕ, suc, pos, Option, Some, None, List, [], ◌∷◌, ◌++◌}
use Rattle.fb_syntax.specs.declared.reserved.Reserved.TheVariants as word
use Rattle.fb_syntax.specs.declared.sign.Sign.TheVariants as sign
use Rattle.fb_syntax.specs.Trees.{Expression, Expressions, Statement, Let, Assign, If, IfElse, Repeat, For, Break, Return, Fail, Call, Assert, Statements, NoStatements, AndStatements, Handlers, NoHandlers, AndHandlers}
use Rattle.fb_syntax.specs.declared.levels.Level.TheVariants as level
use Rattle.fb_print.specs.Items.{Item, Blank, Line, keyword, name, number, sign, comma_separated}
use Rattle.fb_print.specs.Levels.{parenthesized}
use Rattle.fb_print.specs.Expressions.{expression_items, each_placed}

-- where any expression is read
abbrev pub whole_items : Expression → List Item
whole_items e = expression_items level.Expr e

-- ` = `
abbrev pub assigned : List Item
assigned = Blank ∷ sign sign.Assign ∷ Blank ∷ []

abbrev pub ended : List Item → List Item
ended items = items ++ sign sign.Semicolon ∷ []

abbrev pub assignment : List ℕ → Expression → List Item
assignment x value = ended (name x ∷ assigned ++ whole_items value)

abbrev pub repeat_head : ℕ → List Item
repeat_head times = keyword word.Repeat ∷ Blank ∷ number (pos times) ∷ []

abbrev pub for_head : List ℕ → Expression → List Item
for_head x over = keyword word.For ∷ Blank ∷ name x ∷ Blank ∷ keyword word.In ∷ Blank ∷ whole_items over

abbrev pub callee_items : List ℕ → List ℕ → List Item
callee_items service method = name service ∷ sign sign.Dot ∷ name method ∷ []

-- a call up to the end of its arguments
abbrev pub call_items : List ℕ → List ℕ → List ℕ → Expressions → List Item
call_items x service method args =
    keyword word.Call ∷ Blank ∷ name x ∷ assigned ++ callee_items service method ++ parenthesized (comma_separated (each_placed level.Expr args))

-- lines between braces, the opening one behind what stands on a line of this depth
abbrev pub braced : ℕ → List Item → List Item
braced depth lines = Blank ∷ sign sign.OpenBrace ∷ lines ++ Line depth ∷ sign sign.CloseBrace ∷ []

-- which errors a handler is for
abbrev pub code_item : Option (List ℕ) → Item
code_item None = keyword word.Any
code_item (Some code) = name code

-- a call without handlers ends like other statements
abbrev pub end_of : Handlers → List Item
end_of NoHandlers = sign sign.Semicolon ∷ []
end_of (AndHandlers code body more) = []

unfoldable mutual
  -- on a line of this depth
  pub statement_items : ℕ → Statement → List Item
  statement_items depth (Let x value) = keyword word.Let ∷ Blank ∷ assignment x value
  statement_items depth (Assign x value) = assignment x value
  statement_items depth (If cond yes_block) =
      keyword word.If ∷ Blank ∷ whole_items cond ++ braced depth (lines (suc depth) yes_block)
  statement_items depth (IfElse cond yes_block no_block) =
      keyword word.If ∷ Blank ∷ whole_items cond ++ braced depth (lines (suc depth) yes_block)
      ++ Blank ∷ keyword word.Else ∷ braced depth (lines (suc depth) no_block)
  statement_items depth (Repeat times body) =
      repeat_head times ++ braced depth (lines (suc depth) body)
  statement_items depth (For x over body) =
      for_head x over ++ braced depth (lines (suc depth) body)
  statement_items depth Break = ended (keyword word.Break ∷ [])
  statement_items depth (Return value) = ended (keyword word.Return ∷ Blank ∷ whole_items value)
  statement_items depth (Fail code) = ended (keyword word.Fail ∷ Blank ∷ name code ∷ [])
  statement_items depth (Call x service method args handlers) =
      call_items x service method args ++ (handlers_items depth handlers ++ end_of handlers)
  statement_items depth (Assert cond) = ended (keyword word.Assert ∷ Blank ∷ whole_items cond)

  -- each on a line of its own, of this depth
  pub lines : ℕ → Statements → List Item
  lines depth NoStatements = []
  lines depth (AndStatements s ss) = Line depth ∷ statement_items depth s ++ lines depth ss

  -- each on the line of the brace before it, of this depth
  pub handlers_items : ℕ → Handlers → List Item
  handlers_items depth NoHandlers = []
  handlers_items depth (AndHandlers code body handlers) =
      Blank ∷ keyword word.On ∷ Blank ∷ code_item code ∷ braced depth (lines (suc depth) body) ++ handlers_items depth handlers

abbrev pub block_items : ℕ → Statements → List Item
block_items depth body = braced depth (lines (suc depth) body)

-- ---- the parts of the statements that hold others

abbrev pub else_items : ℕ → Option Statements → List Item
else_items depth None = []
else_items depth (Some no_block) = Blank ∷ keyword word.Else ∷ block_items depth no_block

abbrev pub handler_items : ℕ → Option (List ℕ) × Statements → List Item
handler_items depth handler = Blank ∷ keyword word.On ∷ Blank ∷ code_item handler.0 ∷ block_items depth handler.1

-- what follows a call's arguments
abbrev pub after_items : ℕ → Handlers → List Item
after_items depth handlers = handlers_items depth handlers ++ end_of handlers
