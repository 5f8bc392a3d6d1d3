-- An operand stands in parentheses exactly where the grammar wouldn't read it there as that operand without them.
use Rattle.std.proofs.Common.{◌≡◌, ℕ, ◌+◌, ◌↔◌, Bool, true, false, Some, List, [], ◌∷◌, length, drop, refl, sym, ap, subst, arith, length-append}
use Rattle.std.proofs.lemmas.Bool.{ltb-false, ltb-true}
use Rattle.fb_syntax.specs.declared.token.What.{What}
use Rattle.fb_syntax.specs.declared.token.What.TheVariants as what
use Rattle.fb_syntax.specs.declared.token.Token.{Token}
use Rattle.fb_syntax.specs.declared.sign.Sign.TheVariants as sign
use Rattle.fb_syntax.specs.Trees.{Expression}
use Rattle.fb_syntax.specs.Input.{Input, behind}
use Rattle.fb_syntax.specs.ExpressionGrammar.{SpellsExpression, spelled_below}
use Rattle.fb_syntax.specs.declared.levels.Level.{Level}
use Rattle.fb_syntax.specs.declared.levels.Level.TheVariants as level
use Rattle.fb_syntax.specs.Levels.{rank, level_of, in_parentheses}
use Rattle.fb_print.specs.Spelled.{Begins, Reads}
use Rattle.fb_print.proofs.KnownTokens.{some_same}
use Rattle.fb_print.proofs.Respelling.{Leads, first_found}
use Rattle.fb_print.proofs.Standing.{bare_tokens, looser}
use Rattle.fb_print.proofs.ExpressionRespelled.{level_again}

-- what begins with tokens is led by them
record Led (tokens : List What) (start rest : Input) : Type 0 where
  leads : Leads tokens start.left rest.left
  same_end : rest.end ≡ start.end
  same_calls : rest.calls ≡ start.calls
  counted : length start.left ≡ length tokens + length rest.left

led : (tokens : List What) (start rest : Input) → Begins tokens start rest → Led tokens start rest
led [] start rest same =
    let left = ap (λ (input : Input). length input.left) same in
    record {
      leads = ap (λ (input : Input). input.left) same;
      same_end = ap (λ (input : Input). input.end) (sym same);
      same_calls = ap (λ (input : Input). input.calls) (sym same);
      counted = omega (arith, left);
    }
led (token ∷ tokens) start rest (found, more) =
    let first = first_found Some start.left token found in
    let later = led tokens (behind start) rest more in
    let at = first.2 in
    let left : drop 1 start.left ≡ first.1 = ap (drop 1) at in
    let whole = ap length at in
    let after = ap length left in
    record {
      leads = (first.0, first.1, at, some_same first.0.what token first.3, subst (λ (tokens_left : List Token). Leads tokens tokens_left rest.left) left later.leads);
      same_end = later.same_end;
      same_calls = later.same_calls;
      counted = omega (arith, whole, after, later.counted);
    }

module _ (depth : ℕ) (from to : Input) (e : Expression) (spelled : SpellsExpression depth from to e)
    (wanted : Level) (start rest : Input) (begins : Begins (bare_tokens e) start rest) where
  not_read : in_parentheses wanted e ≡ true → ¬ Reads wanted depth start rest e
  not_read in_ read =
      let stands = level_again {calls = λ n. n} depth wanted e start rest read in
      let room = (stands.closed (ltb-true (rank (level_of e)) (rank wanted) in_)).covers.room in
      let closing = length-append (bare_tokens e) (what.Sign sign.CloseParen ∷ []) in
      absurd (omega (arith, room, closing, (led (bare_tokens e) start rest begins).counted))

  is_read : in_parentheses wanted e ≡ false → Reads wanted depth start rest e
  is_read out =
      let stands = level_again {calls = λ n. start.calls} depth level.Expr e from to spelled in
      let echo = led (bare_tokens e) start rest begins in
      looser (spelled_below depth) start rest e (level_of e) wanted (ltb-false (rank (level_of e)) (rank wanted) out)
      (stands.own.spelled start rest (record { leads = echo.leads; same_end = echo.same_end; before = refl; after = echo.same_calls }))

  by_test : (b : Bool) → (b ≡ false → Reads wanted depth start rest e) → ¬ Reads wanted depth start rest e → b ≡ true
  by_test true read none = refl
  by_test false read none = absurd (none (read refl))

  pub parentheses_needed : (in_parentheses wanted e ≡ true) ↔ ¬ Reads wanted depth start rest e
  parentheses_needed = (not_read, by_test (in_parentheses wanted e) is_read)
