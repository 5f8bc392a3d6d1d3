-- Reading statements and bodies depends on the tokens that it takes and on the next one.
use Rattle.std.proofs.Common.{◌≡◌, ℕ, zero, suc, ◌+◌, nat_lt, nat_le, Bool, true, false, if◌then◌else◌, Option, Some, None, Ok, Err, List, [], ◌∷◌, drop, refl, sym, ap, ◌∙◌, subst, inl, inr}
use Rattle.fb_syntax.specs.declared.sign.Sign.TheVariants as sign
use Rattle.fb_syntax.specs.declared.reserved.Reserved.{Reserved}
use Rattle.fb_syntax.specs.declared.reserved.Reserved.TheVariants as word
use Rattle.fb_syntax.specs.declared.token.What.{What}
use Rattle.fb_syntax.specs.declared.token.What.TheVariants as what
use Rattle.fb_syntax.specs.declared.token.Token.{Token}
use Rattle.fb_syntax.specs.Keywords.{reserved_of}
use Rattle.fb_syntax.specs.Limits.{deepest, deepest_block, most_params, most_calls, most_handlers, most_turns}
use Rattle.fb_syntax.specs.Trees.{Statement, Let, Assign, If, IfElse, Repeat, For, Break, Return, Fail, Call, Assert}
use Rattle.fb_syntax.specs.Views.{expressions_of, statements_of, handlers_of}
use Rattle.fb_syntax.specs.Input.{Input, place, behind}
use Rattle.fb_syntax.specs.TokenKinds.{is_word, is_sign, turns_of}
use Rattle.fb_syntax.specs.Reading.{Reading, ◌>>=◌, give, step, too_many}
use Rattle.fb_syntax.specs.ExpressionReading.{levels_at}
use Rattle.fb_syntax.specs.StatementReading.{begins_statement, whole_expr, expr_end, new_value, turns_by, turns, begin_call, arguments, handled, let_statement, assign_statement, break_statement, return_statement, fail_statement, assert_statement, block, if_statement, repeat_statement, for_statement, handler, handlers, call_statement, statement_by, statement_at, statement, statements, deeper_blocks, body}
use Rattle.fb_syntax.proofs.Choices.{chosen}
use Rattle.fb_syntax.proofs.Turns.{ok_is}
use Rattle.fb_syntax.proofs.StatementSound.{statement_shorter}
use Rattle.fb_syntax.proofs.Locality.{led_none, none_same, Ends, Local, local_give, local_unexpected, local_too_many, local_first, local_if, local_step, local_then, local_want, local_open_sign, local_repeated, local_items, local_all}
use Rattle.fb_syntax.proofs.ExpressionLocal.{local_name, beyond_by_first, local_expression}

-- ---- parts of statements

local_whole : Local whole_expr
unfolding whole_expr
local_whole = local_expression deepest

local_end : Local expr_end
unfolding expr_end
local_end = local_then local_whole (λ e. local_then (local_want (is_sign sign.Semicolon)) (λ _. local_give e))

local_new_value : Local new_value
unfolding new_value
local_new_value = local_then (local_want (is_sign sign.Assign)) (λ _. local_end)

local_bool : {A : Type 0} (b : Bool) (this that : Reading A) → Local this → Local that → Local (if b then this else that)
local_bool true this that a c = a
local_bool false this that a c = c

local_turns_by : (found : Option ℕ) → Local (turns_by found)
local_turns_by None = local_unexpected
local_turns_by (Some n) = local_bool (nat_le n most_turns) (step >>= λ _. give n) too_many (local_then local_step (λ _. local_give n)) local_too_many

local_turns : Local turns
unfolding turns
local_turns = local_first None turns_of turns_by local_turns_by

called : (left : List Token) (input rest : Input) (u : Unit {0}) → input.left ≡ left → nat_lt input.calls most_calls ≡ true
    → record (behind input) { calls = input.calls + 1 } ≡ rest → Ends begin_call input u rest
unfolding begin_call
called [] input rest u none few left =
    let empty : rest.left ≡ [] = ap (λ (i : Input). i.left) (sym left) ∙ ap (drop 1) none in
    record {
      front = [];
      cut = none ∙ sym empty;
      end = ap (λ (i : Input). i.end) (sym left);
      again = λ other alike. absurd (none_same rest other empty alike);
    }
called (t ∷ more) input rest u is few left =
    let more_left : more ≡ rest.left = ap (drop 1) (sym is) ∙ ap (λ (i : Input). i.left) left in
    record {
      front = t ∷ [];
      cut = is ∙ ap (λ (l : List Token). t ∷ l) more_left;
      end = ap (λ (i : Input). i.end) (sym left);
      again = λ other alike. rw few (ap (λ (i : Input). Ok (u, i)) (led_none (input.calls + 1) other (alike.calls ∙ ap (λ (i : Input). i.calls) (sym left))));
    }

local_call : Local begin_call
unfolding begin_call
local_call =
    record {
      ends = λ input u rest h. elim (chosen (nat_lt input.calls most_calls) _ (too_many input) (Ok (u, rest)) h) [
        | inl w ↦ called input.left input rest u refl w.0 (ap (λ (p : Unit {0} × Input). p.1) (ok_is (tt, record (behind input) { calls = input.calls + 1 }) (u, rest) w.1))
        | inr w ↦ absurd (let no_way = w.1 in cc)
      ];
      stops = λ input why h. elim (chosen (nat_lt input.calls most_calls) _ (too_many input) (Err why) h) [
        | inl w ↦ absurd (let no_way = w.1 in cc)
        | inr w ↦ (
            let s = local_too_many.stops input why w.1 in
            record { front = s.front; stuck = s.stuck; cut = s.cut; end = s.end; place = s.place; again = λ other alike. rw w.0 (s.again other alike) })
      ];
    }

local_arguments : Local arguments
unfolding arguments
local_arguments =
    local_then (local_want (is_sign sign.OpenParen)) (λ _.
    local_then (local_items most_params sign.CloseParen (levels_at deepest).beyond (levels_at deepest).expr (beyond_by_first _) (local_expression deepest)) (λ args.
    local_then (local_want (is_sign sign.CloseParen)) (λ _. local_give args)))

local_handled : Local handled
unfolding handled
local_handled =
    local_if (is_word word.Any) (local_then local_step (λ _. local_give None)) (local_then local_name (λ code. local_give (Some code)))

-- ---- statements that hold no block

local_let : Local let_statement
unfolding let_statement
local_let = local_then local_step (λ _. local_then local_name (λ variable. local_then local_new_value (λ value. local_give (Let variable value))))

local_assign : Local assign_statement
unfolding assign_statement
local_assign = local_then local_name (λ variable. local_then local_new_value (λ value. local_give (Assign variable value)))

local_break : Local break_statement
unfolding break_statement
local_break = local_then local_step (λ _. local_then (local_want (is_sign sign.Semicolon)) (λ _. local_give Break))

local_return : Local return_statement
unfolding return_statement
local_return = local_then local_step (λ _. local_then local_end (λ value. local_give (Return value)))

local_fail : Local fail_statement
unfolding fail_statement
local_fail = local_then local_step (λ _. local_then local_name (λ code. local_then (local_want (is_sign sign.Semicolon)) (λ _. local_give (Fail code))))

local_assert : Local assert_statement
unfolding assert_statement
local_assert = local_then local_step (λ _. local_then local_end (λ condition. local_give (Assert condition)))

-- ---- statements that hold blocks

abbrev pub LocalInner : Option (Reading (List Statement)) → Type 0
LocalInner None = Unit {0}
LocalInner (Some inner) = Local inner

module _ (deeper : Option (Reading (List Statement))) (good : LocalInner deeper) where
  pub local_block : Local (block deeper)
  unfolding block
  local_block =
      local_open_sign sign.OpenBrace deeper (λ inner is.
      local_then (subst LocalInner is good) (λ read. local_then (local_want (is_sign sign.CloseBrace)) (λ _. local_give (statements_of read))))

  local_if_statement : Local (if_statement deeper)
  unfolding if_statement
  local_if_statement =
      local_then local_step (λ _. local_then local_whole (λ condition. local_then local_block (λ yes_block.
      local_if (is_word word.Else)
      (local_then local_step (λ _. local_then local_block (λ no_block. local_give (IfElse condition yes_block no_block))))
      (local_give (If condition yes_block)))))

  local_repeat : Local (repeat_statement deeper)
  unfolding repeat_statement
  local_repeat = local_then local_step (λ _. local_then local_turns (λ times. local_then local_block (λ body. local_give (Repeat times body))))

  local_for : Local (for_statement deeper)
  unfolding for_statement
  local_for =
      local_then local_step (λ _. local_then local_name (λ variable. local_then (local_want (is_word word.In)) (λ _.
      local_then local_whole (λ over. local_then local_block (λ body. local_give (For variable over body))))))

  local_handler : Local (handler deeper)
  unfolding handler
  local_handler = local_then local_step (λ _. local_then local_handled (λ code. local_then local_block (λ body. local_give (code, body))))

  local_handlers : Local (handlers deeper)
  unfolding handlers
  local_handlers =
      local_if (is_sign sign.Semicolon) (local_then local_step (λ _. local_give []))
      (local_if (is_word word.On) (local_repeated too_many most_handlers (is_word word.On) (handler deeper) local_too_many local_handler) local_unexpected)

  local_call_statement : Local (call_statement deeper)
  unfolding call_statement
  local_call_statement =
      local_then local_call (λ _. local_then local_name (λ variable. local_then (local_want (is_sign sign.Assign)) (λ _.
      local_then local_name (λ service. local_then (local_want (is_sign sign.Dot)) (λ _. local_then local_name (λ method.
      local_then local_arguments (λ args. local_then local_handlers (λ handled_by.
      local_give (Call variable service method (expressions_of args) (handlers_of handled_by))))))))))

  local_statement_by : (reserved : Option Reserved) → Local (statement_by deeper reserved)
  unfolding statement_by
  local_statement_by None = local_assign
  local_statement_by (Some word.Let) = local_let
  local_statement_by (Some word.If) = local_if_statement
  local_statement_by (Some word.Repeat) = local_repeat
  local_statement_by (Some word.For) = local_for
  local_statement_by (Some word.Break) = local_break
  local_statement_by (Some word.Return) = local_return
  local_statement_by (Some word.Fail) = local_fail
  local_statement_by (Some word.Call) = local_call_statement
  local_statement_by (Some word.Assert) = local_assert
  local_statement_by (Some _) = local_unexpected

  local_statement_at : (first : Option What) → Local (statement_at deeper first)
  local_statement_at (Some (what.Word found)) = local_statement_by (reserved_of found)
  local_statement_at _ = local_unexpected

  pub local_statement : Local (statement deeper)
  unfolding statement
  local_statement = local_first None Some (statement_at deeper) local_statement_at

-- ---- by depth

pub local_inner : (depth : ℕ) → LocalInner (deeper_blocks depth)
unfolding deeper_blocks statements
local_inner zero = tt
local_inner (suc depth) =
    local_all begins_statement (statement (deeper_blocks depth)) (λ input came s rest h. statement_shorter depth input s rest h)
    (local_statement (deeper_blocks depth) (local_inner depth))

pub local_body : Local body
unfolding body
local_body =
    let inside = local_block (deeper_blocks deepest_block) (local_inner deepest_block) in
    record {
      ends = λ input b rest h. (
          let e = inside.ends (record input { calls = 0 }) b rest h in
          record { front = e.front; cut = e.cut; end = e.end; again = λ other alike. e.again other alike });
      stops = λ input why h. (
          let s = inside.stops (record input { calls = 0 }) why h in
          record { front = s.front; stuck = s.stuck; cut = s.cut; end = s.end; place = s.place; again = λ other alike. s.again other alike });
    }
