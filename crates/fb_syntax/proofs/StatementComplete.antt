-- What is spelled as a statement is read, where the next token can't go on with it.
use Rattle.std.proofs.Common.{◌≡◌, ℕ, zero, suc, Bool, true, false, Option, Some, Ok, List, refl, ap, ◌∙◌, inl, inr}
use Rattle.std.specs.Prelude.{◌||◌}
use Rattle.std.proofs.lemmas.Bool.{le-leb, lt-ltb}
use Rattle.fb_syntax.specs.declared.sign.Sign.{Sign}
use Rattle.fb_syntax.specs.declared.sign.Sign.TheVariants as sign
use Rattle.fb_syntax.specs.declared.reserved.Reserved.{Reserved}
use Rattle.fb_syntax.specs.declared.reserved.Reserved.TheVariants as word
use Rattle.fb_syntax.specs.declared.token.What.{What}
use Rattle.fb_syntax.specs.declared.token.What.TheVariants as what
use Rattle.fb_syntax.specs.Trees.{Expression, Statement, Statements}
use Rattle.fb_syntax.specs.Limits.{deepest_block, most_params, most_calls, most_handlers, most_turns, deepest}
use Rattle.fb_syntax.specs.Input.{Input, comes}
use Rattle.fb_syntax.specs.TokenKinds.{is_word, is_sign, name_of, comma}
use Rattle.fb_syntax.specs.Reading.{Reading, name, too_many}
use Rattle.fb_syntax.specs.Spans.{Spelling, Takes, Pair}
use Rattle.fb_syntax.specs.ExpressionReading.{expr, deeper_at, beyond_limit}
use Rattle.fb_syntax.specs.StatementReading.{word_begins_statement, begins_statement, whole_expr, expr_end, new_value, turns, begin_call, arguments, handled, let_statement, assign_statement, break_statement, return_statement, fail_statement, assert_statement, block, if_statement, repeat_statement, for_statement, handler, handlers, call_statement, statement_by, statement, statements, deeper_blocks, body}
use Rattle.fb_syntax.specs.StatementGrammar.{WholeExpr, NewValue, Turns, BeginsCall, Arguments, Handled, LetSpelled, AssignSpelled, BreakSpelled, ReturnSpelled, FailSpelled, AssertSpelled, Block, IfSpelled, IfElseSpelled, RepeatSpelled, ForSpelled, HandlerSpelled, HandlersSpelled, CallSpelled, StatementSpelled, spelled_inside, SpellsBody}
use Rattle.fb_syntax.specs.ExpressionGrammar.{goes_on_expr}
use Rattle.fb_syntax.proofs.Complete.{Stops, Again, Always, Differ, Starts, want_again, differ_stops, as_comes, stops_parts, comes_as, comes_first, stands_first, never, never_stops, always_again, behind_starts, many_comes, repeated_again, all_again, items_again, open_sign_again}
use Rattle.fb_syntax.proofs.FirstTokens.{begins_neg, not_sign, not_word, sign_apart, word_apart, name_not_word}
use Rattle.fb_syntax.proofs.TokensOfKind.{word_is, name_is, none_from_name}
use Rattle.fb_syntax.proofs.ReservedWords.{reserved_again}
use Rattle.fb_syntax.proofs.StatementSound.{statement_shorter}
use Rattle.fb_syntax.proofs.ExpressionComplete.{name_again, expression_again, expression_starts}

-- the tokens that can go on with a statement: with an `if`, with a call
abbrev pub goes_on_statement : What → Bool
goes_on_statement token = is_word word.Else token || is_word word.On token

-- ---- parts of statements

-- an expression, before a sign that can't go on with it
expr_before : (closing : Sign) (start rest : Input) (e : Expression) → goes_on_expr (what.Sign closing) ≡ false
    → WholeExpr start rest e → comes (is_sign closing) rest ≡ true → whole_expr start ≡ Ok (e, rest)
unfolding whole_expr
expr_before closing start rest e apart spelled closed =
    (expression_again deepest).again start rest e spelled (differ_stops (is_sign closing) goes_on_expr rest (sign_apart closing goes_on_expr apart) closed)

expr_end_again : (start mid rest : Input) (e : Expression) → WholeExpr start mid e → Takes (is_sign sign.Semicolon) mid rest → expr_end start ≡ Ok (e, rest)
unfolding expr_end
expr_end_again start mid rest e spelled ended =
    rw (expr_before sign.Semicolon start mid e refl spelled ended.0, want_again (is_sign sign.Semicolon) mid rest ended) refl

new_value_again : Always new_value NewValue
unfolding new_value
new_value_again start rest e (mid, came, (two, spelled, ended)) =
    rw (want_again (is_sign sign.Assign) start mid came) (expr_end_again mid two rest e spelled ended)

turns_again : Always turns Turns
unfolding turns
turns_again start rest n (came, few) = rw (came.0, le-leb n most_turns few, ← came.1) refl

call_begins_again : (start rest : Input) → BeginsCall start rest → begin_call start ≡ Ok (tt, rest)
unfolding begin_call
call_begins_again start rest (came, few, next) = rw (lt-ltb start.calls most_calls few, ← next) refl

arguments_again : Always arguments Arguments
unfolding arguments
arguments_again start rest args (mid, came, (two, listed, closed)) =
    rw (
      want_again (is_sign sign.OpenParen) start mid came,
      items_again most_params sign.CloseParen (beyond_limit (deeper_at deepest)) begins_neg goes_on_expr (expr (deeper_at deepest)) WholeExpr
          (sign_apart sign.Comma goes_on_expr refl) (sign_apart sign.CloseParen goes_on_expr refl) (sign_apart sign.CloseParen comma refl)
          (not_sign begins_neg sign.CloseParen refl) (expression_starts deepest) (expression_again deepest) mid two args listed closed.0,
      want_again (is_sign sign.CloseParen) two rest closed,
    ) refl

handled_again : Always handled Handled
unfolding handled
handled_again start rest code (inl any) = rw (any.0.0, ← any.0.1, any.1) refl
handled_again start rest code (inr (found, named, is)) =
    rw (as_comes name_of (is_word word.Any) found false start (name_not_word word.Any found) named.0, name_again start rest found named, is) refl

-- ---- statements that hold no block

let_again : Always let_statement LetSpelled
unfolding let_statement
let_again start rest s (p, (mid, came, (two, named, value)), is) =
    rw (← came.1, name_again mid two p.0 named, new_value_again two rest p.1 value, is) refl

assign_again : Always assign_statement AssignSpelled
unfolding assign_statement
assign_again start rest s (p, (mid, named, value), is) = rw (name_again start mid p.0 named, new_value_again mid rest p.1 value, is) refl

break_again : Always break_statement BreakSpelled
unfolding break_statement
break_again start rest s (mid, came, (ended, is)) = rw (← came.1, want_again (is_sign sign.Semicolon) mid rest ended, is) refl

return_again : Always return_statement ReturnSpelled
unfolding return_statement
return_again start rest s (e, (mid, came, (two, spelled, ended)), is) = rw (← came.1, expr_end_again mid two rest e spelled ended, is) refl

fail_again : Always fail_statement FailSpelled
unfolding fail_statement
fail_again start rest s (code, (mid, came, (two, named, ended)), is) =
    rw (← came.1, name_again mid two code named, want_again (is_sign sign.Semicolon) two rest ended, is) refl

assert_again : Always assert_statement AssertSpelled
unfolding assert_statement
assert_again start rest s (e, (mid, came, (two, spelled, ended)), is) = rw (← came.1, expr_end_again mid two rest e spelled ended, is) refl

-- ---- statements that hold blocks

-- what is spelled inside a block is read, where the block is closed
abbrev pub InsideAgain : Option (Reading (List Statement)) → Spelling (List Statement) → Type 0
InsideAgain deeper Inside =
    (start rest : Input) (xs : List Statement) → Inside start rest xs → comes (is_sign sign.CloseBrace) rest ≡ true
    → (inner : Reading (List Statement)) × (deeper ≡ Some inner) × (inner start ≡ Ok (xs, rest))

module _ (deeper : Option (Reading (List Statement))) (Inside : Spelling (List Statement)) (above : InsideAgain deeper Inside) where
  pub block_always : Always (block deeper) (Block Inside)
  unfolding block
  block_always start rest b (xs, (mid, came, (two, spelled, closed)), is) =
      let inside = above mid two xs spelled closed.0 in
      rw (open_sign_again deeper inside.0 sign.OpenBrace start mid inside.1 came, inside.2, want_again (is_sign sign.CloseBrace) two rest closed, is) refl

  block_starts : Starts (is_sign sign.OpenBrace) (Block Inside)
  block_starts start rest b spelled = spelled.1.1.0

  -- an expression before a block
  expr_and_block : (start mid rest : Input) (e : Expression) (b : Statements) → WholeExpr start mid e → Block Inside mid rest b → whole_expr start ≡ Ok (e, mid)
  expr_and_block start mid rest e b spelled behind_it = expr_before sign.OpenBrace start mid e refl spelled (block_starts mid rest b behind_it)

  if_again : (start rest : Input) (s : Statement) → IfSpelled Inside start rest s → Stops (is_word word.Else) rest → if_statement deeper start ≡ Ok (s, rest)
  unfolding if_statement
  if_again start rest s (p, (mid, came, (two, condition, does)), is) stops =
      rw (← came.1, expr_and_block mid two rest p.0 p.1 condition does, block_always two rest p.1 does, stops, is) refl

  if_else_again : Always (if_statement deeper) (IfElseSpelled Inside)
  unfolding if_statement
  if_else_again start rest s (p, (mid, came, (two, condition, (three, does, (four, otherwise, other)))), is) =
      rw (
        ← came.1,
        expr_and_block mid two three p.0 p.1.0 condition does,
        block_always two three p.1.0 does,
        otherwise.0,
        ← otherwise.1,
        block_always four rest p.1.1 other,
        is,
      ) refl

  repeat_again : Always (repeat_statement deeper) (RepeatSpelled Inside)
  unfolding repeat_statement
  repeat_again start rest s (p, (mid, came, (two, times, does)), is) =
      rw (← came.1, turns_again mid two p.0 times, block_always two rest p.1 does, is) refl

  for_again : Always (for_statement deeper) (ForSpelled Inside)
  unfolding for_statement
  for_again start rest s (p, (mid, came, (two, named, (three, within, (four, over, does)))), is) =
      rw (
        ← came.1,
        name_again mid two p.0 named,
        want_again (is_word word.In) two three within,
        expr_and_block three four rest p.1.0 p.1.1 over does,
        block_always four rest p.1.1 does,
        is,
      ) refl

  handler_again : Always (handler deeper) (HandlerSpelled Inside)
  unfolding handler
  handler_again start rest h (mid, came, (two, code, does)) =
      rw (← came.1, handled_again mid two h.0 code, block_always two rest h.1 does) refl

  handlers_again : Again (is_word word.On) (handlers deeper) (HandlersSpelled Inside)
  unfolding handlers
  handlers_again =
      record {
        again = λ start rest xs. elim [
          | inl none ↦ λ stops. rw (none.0.0, ← none.0.1, none.1) refl
          | inr some ↦ λ stops. (
              let on = many_comes (is_word word.On) (HandlerSpelled Inside) start rest xs (behind_starts (is_word word.On) (Pair Handled (Block Inside))) some.0 some.1.1 in
              rw (differ_stops (is_word word.On) (is_sign sign.Semicolon) start (word_apart word.On (is_sign sign.Semicolon) refl) on, on)
              (repeated_again too_many most_handlers (is_word word.On) never (handler deeper) (HandlerSpelled Inside)
              (behind_starts (is_word word.On) (Pair Handled (Block Inside))) (λ token h. refl) (always_again (HandlerSpelled Inside) handler_again)
              start rest xs some.1.0 some.1.1 (never_stops rest) stops))
        ];
      }

  call_again : Again (is_word word.On) (call_statement deeper) (CallSpelled Inside)
  unfolding call_statement
  call_again =
      record {
        again = λ start rest s.
            λ (mid, begun, (p, (one, variable, (two, assigned, (three, service, (four, dot, (five, method, (six, args, handled_by)))))), is)). λ stops.
            rw (
              call_begins_again start mid begun,
              name_again mid one p.0 variable,
              want_again (is_sign sign.Assign) one two assigned,
              name_again two three p.1.0 service,
              want_again (is_sign sign.Dot) three four dot,
              name_again four five p.1.1.0 method,
              arguments_again five six p.1.1.1.0 args,
              handlers_again.again six rest p.1.1.1.1 handled_by stops,
              is,
            ) refl;
      }

  -- a statement that begins with a reserved word
  by_word : (w : Reserved) (start rest : Input) (s : Statement) → comes (is_word w) start ≡ true
      → statement_by deeper (Some w) start ≡ Ok (s, rest) → statement deeper start ≡ Ok (s, rest)
  unfolding statement
  by_word w start rest s came read =
      let first = comes_first (is_word w) start came in
      rw (first.1, word_is w first.0 first.2, reserved_again w) read

  statement_back : (start rest : Input) (s : Statement) → StatementSpelled Inside start rest s → Stops goes_on_statement rest → statement deeper start ≡ Ok (s, rest)
  unfolding statement_by statement
  statement_back start rest s (inl assign) stops =
      let first = stands_first name_of assign.0.0 start assign.1.1.0 in
      let free = name_is assign.0.0 first.0 first.2 in
      rw (first.1, free.0, none_from_name assign.0.0 free.1) (assign_again start rest s assign)
  statement_back start rest s (inr (inl spelled)) stops = by_word word.Let start rest s spelled.1.1.0 (let_again start rest s spelled)
  statement_back start rest s (inr (inr (inl (inl plain)))) stops =
      let parts = stops_parts (is_word word.Else) (is_word word.On) rest stops in
      by_word word.If start rest s plain.1.1.0 (if_again start rest s plain parts.0)
  statement_back start rest s (inr (inr (inl (inr both)))) stops = by_word word.If start rest s both.1.1.0 (if_else_again start rest s both)
  statement_back start rest s (inr (inr (inr (inl spelled)))) stops = by_word word.Repeat start rest s spelled.1.1.0 (repeat_again start rest s spelled)
  statement_back start rest s (inr (inr (inr (inr (inl spelled))))) stops = by_word word.For start rest s spelled.1.1.0 (for_again start rest s spelled)
  statement_back start rest s (inr (inr (inr (inr (inr (inl spelled)))))) stops = by_word word.Break start rest s spelled.1.0 (break_again start rest s spelled)
  statement_back start rest s (inr (inr (inr (inr (inr (inr (inl spelled))))))) stops = by_word word.Return start rest s spelled.1.1.0 (return_again start rest s spelled)
  statement_back start rest s (inr (inr (inr (inr (inr (inr (inr (inl spelled)))))))) stops = by_word word.Fail start rest s spelled.1.1.0 (fail_again start rest s spelled)
  statement_back start rest s (inr (inr (inr (inr (inr (inr (inr (inr (inl spelled))))))))) stops =
      let parts = stops_parts (is_word word.Else) (is_word word.On) rest stops in
      by_word word.Call start rest s spelled.1.0 (call_again.again start rest s spelled parts.1)
  statement_back start rest s (inr (inr (inr (inr (inr (inr (inr (inr (inr spelled))))))))) stops = by_word word.Assert start rest s spelled.1.1.0 (assert_again start rest s spelled)

  pub statement_again : Again goes_on_statement (statement deeper) (StatementSpelled Inside)
  statement_again = record { again = statement_back }

-- ---- by depth

begins_with : (w : Reserved) (start : Input) → word_begins_statement (Some w) ≡ true → comes (is_word w) start ≡ true → comes begins_statement start ≡ true
begins_with w start begins came = comes_as (is_word w) begins_statement start (λ token h. ap begins_statement (word_is w token h) ∙ ap word_begins_statement (reserved_again w) ∙ begins) came

name_begins_statement : (name : List ℕ) (token : What) → name_of token ≡ Some name → begins_statement token ≡ true
name_begins_statement name token h =
    let is = name_is name token h in
    ap begins_statement is.0 ∙ ap word_begins_statement (none_from_name name is.1)

statement_starts : (Inside : Spelling (List Statement)) → Starts begins_statement (StatementSpelled Inside)
statement_starts Inside start rest s (inl assign) = as_comes name_of begins_statement assign.0.0 true start (name_begins_statement assign.0.0) assign.1.1.0
statement_starts Inside start rest s (inr (inl spelled)) = begins_with word.Let start refl spelled.1.1.0
statement_starts Inside start rest s (inr (inr (inl (inl plain)))) = begins_with word.If start refl plain.1.1.0
statement_starts Inside start rest s (inr (inr (inl (inr both)))) = begins_with word.If start refl both.1.1.0
statement_starts Inside start rest s (inr (inr (inr (inl spelled)))) = begins_with word.Repeat start refl spelled.1.1.0
statement_starts Inside start rest s (inr (inr (inr (inr (inl spelled))))) = begins_with word.For start refl spelled.1.1.0
statement_starts Inside start rest s (inr (inr (inr (inr (inr (inl spelled)))))) = begins_with word.Break start refl spelled.1.0
statement_starts Inside start rest s (inr (inr (inr (inr (inr (inr (inl spelled))))))) = begins_with word.Return start refl spelled.1.1.0
statement_starts Inside start rest s (inr (inr (inr (inr (inr (inr (inr (inl spelled)))))))) = begins_with word.Fail start refl spelled.1.1.0
statement_starts Inside start rest s (inr (inr (inr (inr (inr (inr (inr (inr (inl spelled))))))))) = begins_with word.Call start refl spelled.1.0
statement_starts Inside start rest s (inr (inr (inr (inr (inr (inr (inr (inr (inr spelled))))))))) = begins_with word.Assert start refl spelled.1.1.0

begins_apart : Differ begins_statement goes_on_statement
begins_apart token h =
    rw (
      not_word begins_statement word.Else (ap word_begins_statement (reserved_again word.Else)) token h,
      not_word begins_statement word.On (ap word_begins_statement (reserved_again word.On)) token h,
    ) refl

inside_again : (depth : ℕ) → InsideAgain (deeper_blocks depth) (spelled_inside depth)
unfolding deeper_blocks spelled_inside statements
inside_again zero start rest xs no_way closed = absurd no_way
inside_again (suc depth) start rest xs spelled closed = (
  statements (deeper_blocks depth),
  refl,
  all_again begins_statement goes_on_statement (statement (deeper_blocks depth)) (StatementSpelled (spelled_inside depth))
      (statement_starts (spelled_inside depth)) begins_apart
      (statement_again (deeper_blocks depth) (spelled_inside depth) (inside_again depth))
      (λ input came s left read. statement_shorter depth input s left read) start rest xs spelled
      (differ_stops (is_sign sign.CloseBrace) goes_on_statement rest (sign_apart sign.CloseBrace goes_on_statement refl) closed)
      (differ_stops (is_sign sign.CloseBrace) begins_statement rest (sign_apart sign.CloseBrace begins_statement refl) closed),
)

block_again : (depth : ℕ) → Always (block (deeper_blocks depth)) (Block (spelled_inside depth))
block_again depth = block_always (deeper_blocks depth) (spelled_inside depth) (inside_again depth)

pub body_again : Always body SpellsBody
unfolding body
body_again start rest b spelled = block_again deepest_block (record start { calls = 0 }) rest b spelled
