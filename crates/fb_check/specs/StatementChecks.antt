-- The checks of statements, in source order.
use Rattle.std.specs.Prelude.{ℕ, ◌==◌, length, Bool, true, List}
use Rattle.fb_base.specs.declared.kind.Kind.{Kind}
use Rattle.fb_base.specs.declared.kind.Kind.TheVariants.{Bool as Boolean}
use Rattle.fb_base.specs.Kinds.{kind_of_item}
use Rattle.fb_syntax.specs.Trees.{Expressions, Statement, Let, Assign, If, IfElse, Repeat, For, Break, Return, Fail, Call, Assert, Statements, NoStatements, AndStatements, Handlers, NoHandlers, AndHandlers}
use Rattle.fb_syntax.specs.Counts.{expressions_count}
use Rattle.fb_check.specs.declared.error.CheckRule.TheVariants.{UnknownCallee, WrongKind, WrongCount, BreakOutside}
use Rattle.fb_check.specs.Declarations.{callee_in}
use Rattle.fb_check.specs.ExpressionKinds.{Context, or_rule, unless, in_test, in_method}
use Rattle.fb_check.specs.Walking.{Walking, ◌>>=◌, give, begin, within, here, kind_here, want_kind, want_kinds, want_target, declare}

module _ (about : Context) where
  -- a call, up to its handlers
  unfoldable pub call_check : List ℕ → List ℕ → List ℕ → Expressions → Walking (Unit {0})
  call_check target service method args = do
    callee ← here about (or_rule UnknownCallee (callee_in about.declared service method))
    _ ← here about (unless WrongCount (expressions_count args == length callee.params))
    _ ← want_kinds about args callee.params
    want_target about target callee.gives

  -- the block of a `for`, whose variable has this kind
  abbrev pub for_block_check : List ℕ → Kind → Walking (Unit {0}) → Walking (Unit {0})
  for_block_check name item body = do
    _ ← declare about name item
    body

  -- the statements stand in a loop of their body, or in none
  unfoldable mutual
    pub statement_check : Bool → Statement → Walking (Unit {0})
    statement_check looping (Let name value) = do
      _ ← begin
      found ← kind_here about value
      declare about name found
    statement_check looping (Assign name value) = do
      _ ← begin
      found ← kind_here about value
      want_target about name found
    statement_check looping (If cond body) = do
      _ ← begin
      _ ← want_kind about cond Boolean
      within (statements_check looping body)
    statement_check looping (IfElse cond body other) = do
      _ ← begin
      _ ← want_kind about cond Boolean
      _ ← within (statements_check looping body)
      within (statements_check looping other)
    statement_check looping (Repeat times body) = do
      _ ← begin
      within (statements_check true body)
    statement_check looping (For name over body) = do
      _ ← begin
      found ← kind_here about over
      item ← here about (or_rule WrongKind (kind_of_item found))
      within (for_block_check name item (statements_check true body))
    statement_check looping Break = do
      _ ← begin
      here about (unless BreakOutside looping)
    statement_check looping (Return value) = do
      _ ← begin
      gives ← here about (in_method about.owner)
      want_kind about value gives
    statement_check looping (Fail code) = do
      _ ← begin
      _ ← here about (in_method about.owner)
      give tt
    statement_check looping (Call target service method args handlers) = do
      _ ← begin
      _ ← call_check target service method args
      handlers_check looping handlers
    statement_check looping (Assert cond) = do
      _ ← begin
      _ ← here about (in_test about.owner)
      want_kind about cond Boolean

    pub statements_check : Bool → Statements → Walking (Unit {0})
    statements_check looping NoStatements = give tt
    statements_check looping (AndStatements s ss) = do
      _ ← statement_check looping s
      statements_check looping ss

    pub handlers_check : Bool → Handlers → Walking (Unit {0})
    handlers_check looping NoHandlers = give tt
    handlers_check looping (AndHandlers code body handlers) = do
      _ ← within (statements_check looping body)
      handlers_check looping handlers
