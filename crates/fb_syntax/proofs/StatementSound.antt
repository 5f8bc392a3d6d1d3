-- What is read as a statement is spelled so, and takes a token.
use Rattle.std.proofs.Common.{◌≡◌, ℕ, zero, suc, ◌+◌, ◌-◌, ◌<◌, ◌⊎◌, Bool, true, false, if◌then◌else◌, Option, Some, None, Ok, List, [], length, refl, ap, subst, inl, inr, arith}
use Rattle.std.specs.Prelude.{nat_lt, nat_le}
use Rattle.std.proofs.lemmas.Bool.{leb-true, ltb-true}
use Rattle.fb_syntax.specs.declared.sign.Sign.TheVariants as sign
use Rattle.fb_syntax.specs.declared.reserved.Reserved.{Reserved}
use Rattle.fb_syntax.specs.declared.reserved.Reserved.TheVariants as word
use Rattle.fb_syntax.specs.declared.token.What.{What}
use Rattle.fb_syntax.specs.declared.token.What.TheVariants as what
use Rattle.fb_syntax.specs.declared.parse_error.ParseWhy.TheVariants.{Unexpected, TooMany}
use Rattle.fb_syntax.specs.Trees.{Expression, Statement, Let, Assign, If, IfElse, Repeat, For, Break, Return, Fail, Call, Assert, Statements}
use Rattle.fb_syntax.specs.Views.{expressions_of, statements_of, handlers_of}
use Rattle.fb_syntax.specs.Limits.{deepest_block, most_params, most_calls, most_handlers, most_turns, deepest}
use Rattle.fb_syntax.specs.Keywords.{reserved_of}
use Rattle.fb_syntax.specs.Input.{Input, behind, place, comes, first_what, found_at}
use Rattle.fb_syntax.specs.TokenKinds.{name_of, is_word, is_sign, turns_of}
use Rattle.fb_syntax.specs.Reading.{Reading, ◌>>=◌, give, step, too_many, name}
use Rattle.fb_syntax.specs.ExpressionReading.{levels_at}
use Rattle.fb_syntax.specs.StatementReading.{begins_statement, whole_expr, expr_end, new_value, turns_by, turns, begin_call, arguments, handled, let_statement, assign_statement, break_statement, return_statement, fail_statement, assert_statement, block, if_statement, repeat_statement, for_statement, handler, handlers_from, handlers, call_statement, statement_by, statement_at, statement, statements, deeper_blocks, body}
use Rattle.fb_syntax.specs.Spans.{Spelling, Takes, As, Is, Or, Pair, Behind, Before, Made, Many, AtLeast, AtMost, Listed}
use Rattle.fb_syntax.specs.StatementGrammar.{WholeExpr, NewValue, Turns, BeginsCall, Arguments, Handled, LetSpelled, AssignSpelled, BreakSpelled, ReturnSpelled, FailSpelled, AssertSpelled, Block, IfSpelled, IfElseSpelled, RepeatSpelled, ForSpelled, HandlerSpelled, HandlersSpelled, CallSpelled, StatementSpelled, spelled_inside, SpellsBody}
use Rattle.fb_syntax.proofs.Choices.{chosen}
use Rattle.fb_syntax.proofs.Turns.{ok_is, step_shorter}
use Rattle.fb_syntax.proofs.ReservedWords.{word_came, first_shorter}
use Rattle.fb_syntax.proofs.Sound.{Found, Reads, Took, Given, FoundAfter, reads_then, reads_as, reads_give, reads_made, reads_behind, reads_behind_made, reads_pair, reads_itself, reads_if, reads_if_step, reads_before, reads_before_made, reads_refused, found_is, then_ok, fewer, reads_at_most, reads_all, repeated_some, reads_items, reads_open, found_taken, took_as, took_then, took_step, TookAfter, took_made, after, after_step}
use Rattle.fb_syntax.proofs.ExpressionSound.{reads_name, expression_sound}

-- ---- parts of statements

reads_whole : Reads whole_expr WholeExpr
unfolding whole_expr
reads_whole = expression_sound deepest

reads_end : Reads expr_end (Before WholeExpr (is_sign sign.Semicolon))
unfolding expr_end
reads_end = reads_before (is_sign sign.Semicolon) WholeExpr reads_whole

reads_new_value : Reads new_value NewValue
unfolding new_value
reads_new_value = reads_behind (is_sign sign.Assign) (Before WholeExpr (is_sign sign.Semicolon)) reads_end

reads_arguments : Reads arguments Arguments
unfolding arguments
reads_arguments =
    reads_behind (is_sign sign.OpenParen) (Before (Listed most_params WholeExpr) (is_sign sign.CloseParen))
    (reads_before (is_sign sign.CloseParen) (Listed most_params WholeExpr)
    (reads_items most_params sign.CloseParen (levels_at deepest).beyond (levels_at deepest).expr WholeExpr (omega arith) (expression_sound deepest)))

reads_handled : Reads handled Handled
unfolding handled
reads_handled =
    reads_if (is_word word.Any) (Is (is_word word.Any) None) (Made Some (As name_of))
    (λ input came code rest h. found_is (is_word word.Any) None code input rest came h)
    (reads_made Some (As name_of) reads_name)

-- which of two readings was taken
reading_chosen : {A : Type 0} (b : Bool) (this other : Reading A) (input : Input) (x : A) (rest : Input) → (if b then this else other) input ≡ Ok (x, rest)
    → ((b ≡ true) × (this input ≡ Ok (x, rest))) ⊎ ((b ≡ false) × (other input ≡ Ok (x, rest)))
reading_chosen true this other input x rest h = inl (refl, h)
reading_chosen false this other input x rest h = inr (refl, h)

turns_found : (o : Option ℕ) (input : Input) (n : ℕ) (rest : Input) → found_at turns_of input ≡ o → turns_by o input ≡ Ok (n, rest) → Found Turns input rest n
turns_found None input n rest came h = absurd (let no_way = h in cc)
turns_found (Some m) input n rest came h =
    elim (reading_chosen (nat_le m most_turns) (step >>= λ _. give m) too_many input n rest h) [
      | inl w ↦ subst (λ (p : ℕ × Input). Found Turns input p.1 p.0) (ok_is (m, behind input) (n, rest) w.1)
          (record { spelled = ((came, refl), leb-true m most_turns w.0); shorter = fewer input })
      | inr w ↦ absurd (let no_way = w.1 in cc)
    ]

reads_turns : Reads turns Turns
unfolding turns
reads_turns = record { found = λ input n rest h. turns_found (found_at turns_of input) input n rest refl h }

-- the word `call`, which counts
abbrev CallBegun : Spelling (Unit {0})
CallBegun start rest u = BeginsCall start rest

took_call : (input : Input) (u : Unit {0}) (rest : Input) → comes (is_word word.Call) input ≡ true → begin_call input ≡ Ok (u, rest) → Took CallBegun input rest u
unfolding begin_call
took_call input u rest came h =
    elim (chosen (nat_lt input.calls most_calls) (Ok (tt, record (behind input) { calls = input.calls + 1 })) (too_many input) (Ok (u, rest)) h) [
      | inl w ↦ (
          let one = step_shorter (is_word word.Call) input came in
          subst (λ (p : Unit {0} × Input). Took CallBegun input p.1 p.0) (ok_is (tt, record (behind input) { calls = input.calls + 1 }) (u, rest) w.1)
          (record { spelled = (came, ltb-true input.calls most_calls w.0, refl); shorter = omega (arith, one) }))
      | inr w ↦ absurd (let no_way = w.1 in cc)
    ]

-- ---- statements that hold no block

let_took : TookAfter (is_word word.Let) let_statement LetSpelled
unfolding let_statement
let_took =
    took_made (is_word word.Let) (λ p. Let p.0 p.1) (Pair (As name_of) NewValue)
    (reads_pair (λ p. Let p.0 p.1) (As name_of) NewValue reads_name (λ variable. reads_made (λ value. Let variable value) NewValue reads_new_value))

break_took : TookAfter (is_word word.Break) break_statement BreakSpelled
unfolding break_statement
break_took input came s rest h =
    took_as _ BreakSpelled input rest s
    (λ (mid, first, (at, closing, (same, is))). (mid, first, (subst (λ (m : Input). Takes (is_sign sign.Semicolon) mid m) same closing, is)))
    (took_step (is_word word.Break) (Behind (is_sign sign.Semicolon) (Given Break)) input rest s came
    (reads_behind (is_sign sign.Semicolon) (Given Break) (reads_give Break)) h)

return_took : TookAfter (is_word word.Return) return_statement ReturnSpelled
unfolding return_statement
return_took =
    took_made (is_word word.Return) Return (Before WholeExpr (is_sign sign.Semicolon))
    (reads_made Return (Before WholeExpr (is_sign sign.Semicolon)) reads_end)

fail_took : TookAfter (is_word word.Fail) fail_statement FailSpelled
unfolding fail_statement
fail_took =
    took_made (is_word word.Fail) Fail (Before (As name_of) (is_sign sign.Semicolon))
    (reads_before_made (is_sign sign.Semicolon) Fail (As name_of) reads_name)

assert_took : TookAfter (is_word word.Assert) assert_statement AssertSpelled
unfolding assert_statement
assert_took =
    took_made (is_word word.Assert) Assert (Before WholeExpr (is_sign sign.Semicolon))
    (reads_made Assert (Before WholeExpr (is_sign sign.Semicolon)) reads_end)

-- a name comes
assign_took : (bytes : List ℕ) (input : Input) → first_what input ≡ Some (what.Word bytes)
    → (s : Statement) (rest : Input) → assign_statement input ≡ Ok (s, rest) → Took AssignSpelled input rest s
unfolding assign_statement
assign_took bytes input first s rest h =
    let parts = then_ok (name input) _ s rest h in
    let named = reads_name.found input parts.0 parts.1 parts.2 in
    let fewer_than = first_shorter (what.Word bytes) input first in
    let same = ap (λ (i : Input). length i.left) named.spelled.1 in
    took_then (As name_of) (Made (λ value. Assign parts.0 value) NewValue) AssignSpelled input parts.1 rest parts.0 s
    (λ p q. ((parts.0, q.0), (parts.1, p, q.1), q.2))
    (record { spelled = named.spelled; shorter = omega (arith, fewer_than, same) })
    ((reads_made (λ value. Assign parts.0 value) NewValue reads_new_value).found parts.1 s rest parts.3)

-- ---- statements that hold blocks

-- what is read inside the braces is spelled so
abbrev pub Inner : Option (Reading (List Statement)) → Spelling (List Statement) → Type 0
Inner None Inside = Unit {0}
Inner (Some inner) Inside = Reads inner Inside

module _ (deeper : Option (Reading (List Statement))) (Inside : Spelling (List Statement)) (good : Inner deeper Inside) where
  pub reads_block : Reads (block deeper) (Block Inside)
  unfolding block
  reads_block =
      reads_as (Behind (is_sign sign.OpenBrace) (Made statements_of (Before Inside (is_sign sign.CloseBrace)))) (Block Inside)
      (λ start rest b. λ (mid, first, (x, this, is)). (x, (mid, first, this), is))
      (reads_open deeper sign.OpenBrace (Made statements_of (Before Inside (is_sign sign.CloseBrace)))
      (λ inner is. reads_before_made (is_sign sign.CloseBrace) statements_of Inside (subst (λ (o : Option (Reading (List Statement))). Inner o Inside) is good)))

  if_took : TookAfter (is_word word.If) (if_statement deeper) (Or (IfSpelled Inside) (IfElseSpelled Inside))
  unfolding if_statement
  if_took input came s rest h =
      took_as _ (Or (IfSpelled Inside) (IfElseSpelled Inside)) input rest s
      (λ (mid, first, (condition, at, tested, (yes_block, end, this, either))). elim either [
        | inl no_block ↦ inr ((condition, (yes_block, no_block.2.0)), (mid, first, (at, tested, (end, this, (no_block.0, no_block.1, no_block.2.1)))), no_block.2.2)
        | inr given ↦ inl ((condition, yes_block), (mid, first, (at, tested, subst (λ (m : Input). Block Inside at m yes_block) given.0 this)), given.1)
      ])
      (took_step (is_word word.If) _ input rest s came
      (reads_then WholeExpr _ reads_whole (λ condition. reads_then (Block Inside) _ reads_block (λ yes_block.
      reads_if_step (is_word word.Else) (Made (λ no_block. IfElse condition yes_block no_block) (Block Inside)) (Given (If condition yes_block))
      (reads_made (λ no_block. IfElse condition yes_block no_block) (Block Inside) reads_block)
      (reads_give (If condition yes_block)))))
      h)

  repeat_took : TookAfter (is_word word.Repeat) (repeat_statement deeper) (RepeatSpelled Inside)
  unfolding repeat_statement
  repeat_took =
      took_made (is_word word.Repeat) (λ p. Repeat p.0 p.1) (Pair Turns (Block Inside))
      (reads_pair (λ p. Repeat p.0 p.1) Turns (Block Inside) reads_turns (λ times. reads_made (λ body. Repeat times body) (Block Inside) reads_block))

  for_took : TookAfter (is_word word.For) (for_statement deeper) (ForSpelled Inside)
  unfolding for_statement
  for_took =
      let OverBlock : Spelling (Expression × Statements) = Pair WholeExpr (Block Inside) in
      took_made (is_word word.For) (λ p. For p.0 p.1.0 p.1.1) (Pair (As name_of) (Behind (is_word word.In) OverBlock))
      (reads_pair (λ p. For p.0 p.1.0 p.1.1) (As name_of) (Behind (is_word word.In) OverBlock) reads_name (λ variable.
      reads_behind_made (is_word word.In) (λ p. For variable p.0 p.1) OverBlock
      (reads_pair (λ p. For variable p.0 p.1) WholeExpr (Block Inside) reads_whole (λ over.
      reads_made (λ body. For variable over body) (Block Inside) reads_block))))

  handler_found : FoundAfter (is_word word.On) (handler deeper) (HandlerSpelled Inside)
  unfolding handler
  handler_found =
      after_step (is_word word.On) (Pair Handled (Block Inside))
      (reads_itself (Pair Handled (Block Inside))
      (reads_pair (λ p. p) Handled (Block Inside) reads_handled (λ code. reads_made (λ body. (code, body)) (Block Inside) reads_block)))

  handlers_found : FoundAfter (is_word word.On) (handlers_from deeper most_handlers) (AtLeast 1 (AtMost most_handlers (Many (HandlerSpelled Inside))))
  handlers_found input came all rest h =
      let f = (reads_at_most (λ at. TooMany (place at)) most_handlers (is_word word.On) (handler deeper) (HandlerSpelled Inside) handler_found).found input all rest h in
      record {
        spelled = (repeated_some too_many most_handlers (most_handlers - 1) (is_word word.On) (handler deeper) input rest all refl came h, f.spelled);
        shorter = f.shorter;
      }

  reads_handlers : Reads (handlers deeper) (HandlersSpelled Inside)
  unfolding handlers
  reads_handlers =
      let Some : Spelling (List (Option (List ℕ) × Statements)) = AtLeast 1 (AtMost most_handlers (Many (HandlerSpelled Inside))) in
      reads_if (is_sign sign.Semicolon) (Is (is_sign sign.Semicolon) []) Some
      (λ input came all rest h. found_is (is_sign sign.Semicolon) [] all input rest came h)
      (reads_as _ Some (λ start rest all. elim [ inl some ↦ some | inr none ↦ absurd none ])
      (reads_if (is_word word.On) Some (λ start rest all. ⊥) handlers_found (reads_refused (λ at. Unexpected (place at)) (λ start rest all. ⊥))))

  call_took : TookAfter (is_word word.Call) (call_statement deeper) (CallSpelled Inside)
  unfolding call_statement
  call_took input came s rest h =
      let Arranged : Spelling (List Expression × List (Option (List ℕ) × Statements)) = Pair Arguments (HandlersSpelled Inside) in
      let OfMethod : Spelling (List ℕ × (List Expression × List (Option (List ℕ) × Statements))) = Pair (As name_of) Arranged in
      let OfService : Spelling (List ℕ × (List ℕ × (List Expression × List (Option (List ℕ) × Statements)))) = Pair (As name_of) (Behind (is_sign sign.Dot) OfMethod) in
      let parts = then_ok (begin_call input) _ s rest h in
      let more = (reads_pair (λ p. Call p.0 p.1.0 p.1.1.0 (expressions_of p.1.1.1.0) (handlers_of p.1.1.1.1)) (As name_of) (Behind (is_sign sign.Assign) OfService) reads_name (λ variable.
      reads_behind_made (is_sign sign.Assign) (λ p. Call variable p.0 p.1.0 (expressions_of p.1.1.0) (handlers_of p.1.1.1)) OfService
      (reads_pair (λ p. Call variable p.0 p.1.0 (expressions_of p.1.1.0) (handlers_of p.1.1.1)) (As name_of) (Behind (is_sign sign.Dot) OfMethod) reads_name (λ service.
      reads_behind_made (is_sign sign.Dot) (λ p. Call variable service p.0 (expressions_of p.1.0) (handlers_of p.1.1)) OfMethod
      (reads_pair (λ p. Call variable service p.0 (expressions_of p.1.0) (handlers_of p.1.1)) (As name_of) Arranged reads_name (λ method.
      reads_pair (λ p. Call variable service method (expressions_of p.0) (handlers_of p.1)) Arguments (HandlersSpelled Inside) reads_arguments (λ args.
      reads_made (λ handled_by. Call variable service method (expressions_of args) (handlers_of handled_by)) (HandlersSpelled Inside) reads_handlers))))))) in
      took_then CallBegun _ (CallSpelled Inside) input parts.1 rest parts.0 s (λ p q. (parts.1, p, q)) (took_call input parts.0 parts.1 came parts.2)
      (more.found parts.1 s rest parts.3)

  statement_took : (bytes : List ℕ) (reserved : Option Reserved) (input : Input) → first_what input ≡ Some (what.Word bytes) → reserved_of bytes ≡ reserved
      → (s : Statement) (rest : Input) → statement_by deeper reserved input ≡ Ok (s, rest) → Took (StatementSpelled Inside) input rest s
  unfolding statement_by
  statement_took bytes None input first is s rest h =
      took_as _ (StatementSpelled Inside) input rest s inl (assign_took bytes input first s rest h)
  statement_took bytes (Some word.Let) input first is s rest h =
      took_as _ (StatementSpelled Inside) input rest s (λ t. inr (inl t)) (let_took input (word_came word.Let bytes input first is) s rest h)
  statement_took bytes (Some word.If) input first is s rest h =
      took_as _ (StatementSpelled Inside) input rest s (λ t. inr (inr (inl t))) (if_took input (word_came word.If bytes input first is) s rest h)
  statement_took bytes (Some word.Repeat) input first is s rest h =
      took_as _ (StatementSpelled Inside) input rest s (λ t. inr (inr (inr (inl t)))) (repeat_took input (word_came word.Repeat bytes input first is) s rest h)
  statement_took bytes (Some word.For) input first is s rest h =
      took_as _ (StatementSpelled Inside) input rest s (λ t. inr (inr (inr (inr (inl t))))) (for_took input (word_came word.For bytes input first is) s rest h)
  statement_took bytes (Some word.Break) input first is s rest h =
      took_as _ (StatementSpelled Inside) input rest s (λ t. inr (inr (inr (inr (inr (inl t)))))) (break_took input (word_came word.Break bytes input first is) s rest h)
  statement_took bytes (Some word.Return) input first is s rest h =
      took_as _ (StatementSpelled Inside) input rest s (λ t. inr (inr (inr (inr (inr (inr (inl t))))))) (return_took input (word_came word.Return bytes input first is) s rest h)
  statement_took bytes (Some word.Fail) input first is s rest h =
      took_as _ (StatementSpelled Inside) input rest s (λ t. inr (inr (inr (inr (inr (inr (inr (inl t)))))))) (fail_took input (word_came word.Fail bytes input first is) s rest h)
  statement_took bytes (Some word.Call) input first is s rest h =
      took_as _ (StatementSpelled Inside) input rest s (λ t. inr (inr (inr (inr (inr (inr (inr (inr (inl t))))))))) (call_took input (word_came word.Call bytes input first is) s rest h)
  statement_took bytes (Some word.Assert) input first is s rest h =
      took_as _ (StatementSpelled Inside) input rest s (λ t. inr (inr (inr (inr (inr (inr (inr (inr (inr t))))))))) (assert_took input (word_came word.Assert bytes input first is) s rest h)
  statement_took bytes (Some _) input first is s rest h = absurd (let no_way = h in cc)

  took_at : (first : Option What) (input : Input) → first_what input ≡ first → (s : Statement) (rest : Input) → statement_at deeper first input ≡ Ok (s, rest) → Took (StatementSpelled Inside) input rest s
  took_at (Some (what.Word bytes)) input is s rest h = statement_took bytes (reserved_of bytes) input is refl s rest h
  took_at _ input is s rest h = absurd (let no_way = h in cc)

  pub took_statement : (input : Input) (s : Statement) (rest : Input) → statement deeper input ≡ Ok (s, rest) → Took (StatementSpelled Inside) input rest s
  unfolding statement
  took_statement input s rest h = took_at (first_what input) input refl s rest h

  pub reads_statement : Reads (statement deeper) (StatementSpelled Inside)
  reads_statement = record { found = λ input s rest h. found_taken (StatementSpelled Inside) input rest s (took_statement input s rest h) }

  pub reads_statements : Reads (statements deeper) (Many (StatementSpelled Inside))
  unfolding statements
  reads_statements = reads_all begins_statement (statement deeper) (StatementSpelled Inside) (after begins_statement (StatementSpelled Inside) reads_statement)

-- ---- by depth

pub inner_blocks : (depth : ℕ) → Inner (deeper_blocks depth) (spelled_inside depth)
unfolding deeper_blocks spelled_inside
inner_blocks zero = tt
inner_blocks (suc depth) = reads_statements (deeper_blocks depth) (spelled_inside depth) (inner_blocks depth)

pub statement_shorter : (depth : ℕ) (input : Input) (s : Statement) (rest : Input) → statement (deeper_blocks depth) input ≡ Ok (s, rest) → length rest.left < length input.left
statement_shorter depth input s rest h = (took_statement (deeper_blocks depth) (spelled_inside depth) (inner_blocks depth) input s rest h).shorter

pub block_sound : (depth : ℕ) → Reads (block (deeper_blocks depth)) (Block (spelled_inside depth))
block_sound depth = reads_block (deeper_blocks depth) (spelled_inside depth) (inner_blocks depth)

-- calls are counted from the beginning
pub body_sound : Reads body SpellsBody
unfolding body
body_sound =
    record {
      found = λ input b rest h. (
          let f = (block_sound deepest_block).found (record input { calls = 0 }) b rest h in
          record { spelled = f.spelled; shorter = f.shorter });
    }
