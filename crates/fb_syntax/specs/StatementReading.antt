-- Reading statements. In a body only so many blocks are open at once, and only so many calls stand in it.
use Rattle.std.specs.Prelude.{ℕ, zero, suc, ◌+◌, nat_lt, nat_le, Bool, true, false, if◌then◌else◌, List, [], Option, Some, None, Ok}
use Rattle.fb_syntax.specs.declared.sign.Sign.TheVariants as sign
use Rattle.fb_syntax.specs.declared.reserved.Reserved.{Reserved}
use Rattle.fb_syntax.specs.declared.reserved.Reserved.TheVariants as word
use Rattle.fb_syntax.specs.declared.token.What.{What}
use Rattle.fb_syntax.specs.declared.token.What.TheVariants as what
use Rattle.fb_syntax.specs.Keywords.{reserved_of}
use Rattle.fb_syntax.specs.Trees.{Expression, Statement, Let, Assign, If, IfElse, Repeat, For, Break, Return, Fail, Call, Assert, Statements}
use Rattle.fb_syntax.specs.Views.{expressions_of, statements_of, handlers_of}
use Rattle.fb_syntax.specs.Limits.{deepest_block, most_params, most_calls, most_handlers, most_turns, deepest}
use Rattle.fb_syntax.specs.Input.{behind, first_what, found_at}
use Rattle.fb_syntax.specs.TokenKinds.{is_word, is_sign, turns_of}
use Rattle.fb_syntax.specs.Reading.{Reading, ◌>>=◌, give, step, unexpected, too_many, if_comes, want, name, open_sign, repeated, all_of, items}
use Rattle.fb_syntax.specs.ExpressionReading.{expr, deeper_at, levels_at}

-- ---- what a statement begins with

abbrev pub word_begins_statement : Option Reserved → Bool
word_begins_statement None = true
word_begins_statement (Some word.Let) = true
word_begins_statement (Some word.If) = true
word_begins_statement (Some word.Repeat) = true
word_begins_statement (Some word.For) = true
word_begins_statement (Some word.Break) = true
word_begins_statement (Some word.Return) = true
word_begins_statement (Some word.Fail) = true
word_begins_statement (Some word.Call) = true
word_begins_statement (Some word.Assert) = true
word_begins_statement (Some _) = false

abbrev pub begins_statement : What → Bool
begins_statement (what.Word found) = word_begins_statement (reserved_of found)
begins_statement _ = false

-- ---- parts of statements

unfoldable pub whole_expr : Reading Expression
whole_expr = expr (deeper_at deepest)

-- an expression, and the sign that ends its statement
unfoldable pub expr_end : Reading Expression
expr_end = do
  e ← whole_expr
  _ ← want (is_sign sign.Semicolon)
  give e

-- `= e ;`
unfoldable pub new_value : Reading Expression
new_value = do
  _ ← want (is_sign sign.Assign)
  expr_end

abbrev pub turns_by : Option ℕ → Reading ℕ
turns_by None = unexpected
turns_by (Some n) =
    if nat_le n most_turns then (step >>= λ _. give n) else too_many

-- as many turns as a literal says
unfoldable pub turns : Reading ℕ
turns input = turns_by (found_at turns_of input) input

-- the word `call`, which counts
unfoldable pub begin_call : Reading (Unit {0})
begin_call input =
    if nat_lt input.calls most_calls then Ok (tt, record (behind input) { calls = input.calls + 1 }) else too_many input

-- `( e, .. )`
unfoldable pub arguments : Reading (List Expression)
arguments = do
  _ ← want (is_sign sign.OpenParen)
  args ← items most_params sign.CloseParen (levels_at deepest).beyond (levels_at deepest).expr
  _ ← want (is_sign sign.CloseParen)
  give args

-- what a handler is for: a code, or none for any
unfoldable pub handled : Reading (Option (List ℕ))
handled =
    if_comes (is_word word.Any)
    (do
      _ ← step
      give None)
    (do
      code ← name
      give (Some code))

-- ---- statements that hold no block

unfoldable pub let_statement : Reading Statement
let_statement = do
  _ ← step
  variable ← name
  value ← new_value
  give (Let variable value)

unfoldable pub assign_statement : Reading Statement
assign_statement = do
  variable ← name
  value ← new_value
  give (Assign variable value)

unfoldable pub break_statement : Reading Statement
break_statement = do
  _ ← step
  _ ← want (is_sign sign.Semicolon)
  give Break

unfoldable pub return_statement : Reading Statement
return_statement = do
  _ ← step
  value ← expr_end
  give (Return value)

unfoldable pub fail_statement : Reading Statement
fail_statement = do
  _ ← step
  code ← name
  _ ← want (is_sign sign.Semicolon)
  give (Fail code)

unfoldable pub assert_statement : Reading Statement
assert_statement = do
  _ ← step
  condition ← expr_end
  give (Assert condition)

-- ---- statements that hold blocks

-- over what is read behind a block's opening brace, unless too many are open
module _ (deeper : Option (Reading (List Statement))) where
  unfoldable pub block : Reading Statements
  block = do
    statements ← open_sign sign.OpenBrace deeper
    read ← statements
    _ ← want (is_sign sign.CloseBrace)
    give (statements_of read)

  unfoldable pub if_statement : Reading Statement
  if_statement = do
    _ ← step
    condition ← whole_expr
    yes_block ← block
    if_comes (is_word word.Else)
        (do
          _ ← step
          no_block ← block
          give (IfElse condition yes_block no_block))
        (give (If condition yes_block))

  unfoldable pub repeat_statement : Reading Statement
  repeat_statement = do
    _ ← step
    times ← turns
    body ← block
    give (Repeat times body)

  unfoldable pub for_statement : Reading Statement
  for_statement = do
    _ ← step
    variable ← name
    _ ← want (is_word word.In)
    over ← whole_expr
    body ← block
    give (For variable over body)

  unfoldable pub handler : Reading (Option (List ℕ) × Statements)
  handler = do
    _ ← step
    code ← handled
    body ← block
    give (code, body)

  -- so many handlers at most
  abbrev pub handlers_from : ℕ → Reading (List (Option (List ℕ) × Statements))
  handlers_from room = repeated too_many room (is_word word.On) handler

  -- what follows a call's arguments: handlers, or the sign that ends the statement
  unfoldable pub handlers : Reading (List (Option (List ℕ) × Statements))
  handlers =
      if_comes (is_sign sign.Semicolon)
      (do
        _ ← step
        give [])
      (if_comes (is_word word.On) (handlers_from most_handlers) unexpected)

  unfoldable pub call_statement : Reading Statement
  call_statement = do
    _ ← begin_call
    variable ← name
    _ ← want (is_sign sign.Assign)
    service ← name
    _ ← want (is_sign sign.Dot)
    method ← name
    args ← arguments
    handled_by ← handlers
    give (Call variable service method (expressions_of args) (handlers_of handled_by))

  -- by the reserved word that comes, or by none for a name
  unfoldable pub statement_by : Option Reserved → Reading Statement
  statement_by None = assign_statement
  statement_by (Some word.Let) = let_statement
  statement_by (Some word.If) = if_statement
  statement_by (Some word.Repeat) = repeat_statement
  statement_by (Some word.For) = for_statement
  statement_by (Some word.Break) = break_statement
  statement_by (Some word.Return) = return_statement
  statement_by (Some word.Fail) = fail_statement
  statement_by (Some word.Call) = call_statement
  statement_by (Some word.Assert) = assert_statement
  statement_by (Some _) = unexpected

  abbrev pub statement_at : Option What → Reading Statement
  statement_at (Some (what.Word found)) = statement_by (reserved_of found)
  statement_at _ = unexpected

  unfoldable pub statement : Reading Statement
  statement input = statement_at (first_what input) input

  unfoldable pub statements : Reading (List Statement)
  statements = all_of begins_statement statement

-- what is read behind a block's opening brace, where so many may be opened
unfoldable pub deeper_blocks : ℕ → Option (Reading (List Statement))
deeper_blocks zero = None
deeper_blocks (suc depth) = Some (statements (deeper_blocks depth))

abbrev pub statements_at : ℕ → Reading (List Statement)
statements_at depth = statements (deeper_blocks depth)

-- a body, whose calls are counted from its beginning
unfoldable pub body : Reading Statements
body input = block (deeper_blocks deepest_block) (record input { calls = 0 })
