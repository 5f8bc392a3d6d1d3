-- Which tokens spell a statement. In a body only so many blocks are open at once, and only so many calls stand in it.
use Rattle.std.specs.Prelude.{◌≡◌, ℕ, zero, suc, ◌+◌, ◌<◌, ◌≤◌, true, List, [], Option, Some, None}
use Rattle.fb_syntax.specs.declared.sign.Sign.TheVariants as sign
use Rattle.fb_syntax.specs.declared.reserved.Reserved.TheVariants as word
use Rattle.fb_syntax.specs.Trees.{Expression, Statement, Let, Assign, If, IfElse, Repeat, For, Break, Return, Fail, Call, Assert, Statements}
use Rattle.fb_syntax.specs.Views.{expressions_of, statements_of, handlers_of}
use Rattle.fb_syntax.specs.Limits.{deepest_block, most_params, most_calls, most_handlers, most_turns, deepest}
use Rattle.fb_syntax.specs.Input.{Input, comes, behind}
use Rattle.fb_syntax.specs.TokenKinds.{name_of, is_word, is_sign, turns_of}
use Rattle.fb_syntax.specs.Spans.{Spelling, As, Is, Or, Pair, Behind, Between, Made, Many, AtLeast, AtMost, Listed}
use Rattle.fb_syntax.specs.ExpressionGrammar.{SpellsExpression}

-- ---- parts of statements

abbrev pub WholeExpr : Spelling Expression
WholeExpr = SpellsExpression deepest

-- `= e ;`
abbrev pub NewValue : Spelling Expression
NewValue = Between (is_sign sign.Assign) WholeExpr (is_sign sign.Semicolon)

-- as many turns as a literal says, if it says no more than may be
abbrev pub Turns : Spelling ℕ
Turns start rest n = As turns_of start rest n × (n ≤ most_turns)

-- the word `call`, which is one more call of the body
abbrev pub BeginsCall : Input → Input → Type 0
BeginsCall start rest =
    (comes (is_word word.Call) start ≡ true) × (start.calls < most_calls) × (rest ≡ record (behind start) { calls = start.calls + 1 })

-- `( e, .. )`
abbrev pub Arguments : Spelling (List Expression)
Arguments = Between (is_sign sign.OpenParen) (Listed most_params WholeExpr) (is_sign sign.CloseParen)

-- a code, or `any`
abbrev pub Handled : Spelling (Option (List ℕ))
Handled = Or (Is (is_word word.Any) None) (Made Some (As name_of))

-- ---- statements that hold no block

abbrev pub LetSpelled : Spelling Statement
LetSpelled = Made (λ p. Let p.0 p.1) (Behind (is_word word.Let) (Pair (As name_of) NewValue))

abbrev pub AssignSpelled : Spelling Statement
AssignSpelled = Made (λ p. Assign p.0 p.1) (Pair (As name_of) NewValue)

abbrev pub BreakSpelled : Spelling Statement
BreakSpelled = Behind (is_word word.Break) (Is (is_sign sign.Semicolon) Break)

abbrev pub ReturnSpelled : Spelling Statement
ReturnSpelled = Made Return (Between (is_word word.Return) WholeExpr (is_sign sign.Semicolon))

abbrev pub FailSpelled : Spelling Statement
FailSpelled = Made Fail (Between (is_word word.Fail) (As name_of) (is_sign sign.Semicolon))

abbrev pub AssertSpelled : Spelling Statement
AssertSpelled = Made Assert (Between (is_word word.Assert) WholeExpr (is_sign sign.Semicolon))

-- ---- statements that hold blocks

-- over what is spelled between the braces of a block
module _ (Inside : Spelling (List Statement)) where
  abbrev pub Block : Spelling Statements
  Block = Made statements_of (Between (is_sign sign.OpenBrace) Inside (is_sign sign.CloseBrace))

  abbrev pub IfSpelled : Spelling Statement
  IfSpelled = Made (λ p. If p.0 p.1) (Behind (is_word word.If) (Pair WholeExpr Block))

  abbrev pub IfElseSpelled : Spelling Statement
  IfElseSpelled =
      Made (λ p. IfElse p.0 p.1.0 p.1.1) (Behind (is_word word.If) (Pair WholeExpr (Pair Block (Behind (is_word word.Else) Block))))

  abbrev pub RepeatSpelled : Spelling Statement
  RepeatSpelled = Made (λ p. Repeat p.0 p.1) (Behind (is_word word.Repeat) (Pair Turns Block))

  abbrev pub ForSpelled : Spelling Statement
  ForSpelled =
      Made (λ p. For p.0 p.1.0 p.1.1) (Behind (is_word word.For) (Pair (As name_of) (Behind (is_word word.In) (Pair WholeExpr Block))))

  abbrev pub HandlerSpelled : Spelling (Option (List ℕ) × Statements)
  HandlerSpelled = Behind (is_word word.On) (Pair Handled Block)

  -- the sign that ends the statement, or handlers
  abbrev pub HandlersSpelled : Spelling (List (Option (List ℕ) × Statements))
  HandlersSpelled = Or (Is (is_sign sign.Semicolon) []) (AtLeast 1 (AtMost most_handlers (Many HandlerSpelled)))

  -- `v = s.m ( e, .. )`, and what follows
  abbrev pub CallSpelled : Spelling Statement
  CallSpelled start rest statement = (mid : Input) × BeginsCall start mid
      × Made (λ p. Call p.0 p.1.0 p.1.1.0 (expressions_of p.1.1.1.0) (handlers_of p.1.1.1.1))
      (Pair (As name_of) (Behind (is_sign sign.Assign) (Pair (As name_of) (Behind (is_sign sign.Dot) (Pair (As name_of) (Pair Arguments HandlersSpelled))))))
      mid rest statement

  abbrev pub StatementSpelled : Spelling Statement
  StatementSpelled =
      Or AssignSpelled
      (Or LetSpelled
      (Or (Or IfSpelled IfElseSpelled)
      (Or RepeatSpelled
      (Or ForSpelled
      (Or BreakSpelled
      (Or ReturnSpelled
      (Or FailSpelled
      (Or CallSpelled AssertSpelled))))))))

-- the statements that are spelled between braces, where so many blocks may be opened with them
unfoldable pub spelled_inside : ℕ → Spelling (List Statement)
spelled_inside zero = λ start rest statements. ⊥
spelled_inside (suc depth) = Many (StatementSpelled (spelled_inside depth))

-- a body, whose calls are counted from its beginning
abbrev pub SpellsBody : Spelling Statements
SpellsBody start rest statements = Block (spelled_inside deepest_block) (record start { calls = 0 }) rest statements
