-- Reading an expression depends on the tokens that it takes and on the next one.
use Rattle.std.proofs.Common.{◌≡◌, ℕ, zero, suc, ◌-◌, Bool, true, false, if◌then◌else◌, Option, Some, None, List, [], ◌∷◌, refl, subst}
use Rattle.fb_base.specs.declared.operator.Op2.{Op2}
use Rattle.fb_syntax.specs.declared.sign.Sign.TheVariants as sign
use Rattle.fb_syntax.specs.declared.reserved.Reserved.{Reserved}
use Rattle.fb_syntax.specs.declared.reserved.Reserved.TheVariants as word
use Rattle.fb_syntax.specs.declared.levels.Junction.{Junction}
use Rattle.fb_syntax.specs.declared.levels.Junction.TheVariants as junction
use Rattle.fb_syntax.specs.declared.levels.Series.TheVariants as series
use Rattle.fb_syntax.specs.declared.token.What.{What}
use Rattle.fb_syntax.specs.declared.token.What.TheVariants as what
use Rattle.fb_syntax.specs.declared.parse_error.ParseWhy.TheVariants.{Unexpected, TooDeep, TooMany}
use Rattle.fb_syntax.specs.Keywords.{reserved_of}
use Rattle.fb_syntax.specs.Limits.{longest_list}
use Rattle.fb_syntax.specs.Trees.{Expression, IntLiteral, TextLiteral, BoolLiteral, Variable, ListLiteral, Length, ItemAt, Negative, Not, Comparison, Chain, Injected, InjectedOn}
use Rattle.fb_syntax.specs.Views.{expressions_of, links_of, junction_of}
use Rattle.fb_syntax.specs.Input.{place, comes}
use Rattle.fb_syntax.specs.TokenKinds.{name_of, is_word, is_sign, by_sign, comparison_sign, series_operator, base_of, junction_word}
use Rattle.fb_syntax.specs.Reading.{Reading, ◌>>=◌, step, name}
use Rattle.fb_syntax.specs.ExpressionReading.{Levels, opens, begins_expr, beyond_limit, by_option, by_operator, links, base_kind, list_head, injected_on, chained, joined_by, parenthesized, length_of, list_literal, word_atom, atom_by, atom, post, unary, product, sum, comparison, neg, conjunction, expr, deeper_at}
use Rattle.fb_syntax.specs.Refusals.{parser_place}
use Rattle.fb_syntax.proofs.Locality.{ByFirst, Local, same_comes, same_place, local_give, local_unexpected, local_too_many, local_first, local_if, local_step, local_then, local_want, local_taken, local_open, local_open_sign, local_items, local_all, step_takes}

pub local_name : Local name
unfolding name
local_name = local_taken name_of

pub local_base : Local base_kind
unfolding base_kind
local_base = local_taken base_of

pub local_head : Local list_head
unfolding list_head
local_head =
    local_then local_step (λ _. local_then (local_want (is_sign sign.Less)) (λ _.
    local_then local_base (λ base. local_then (local_want (is_sign sign.Greater)) (λ _. local_give base))))

local_injected_on : Local injected_on
unfolding injected_on
local_injected_on =
    local_then local_step (λ _. local_then local_name (λ service.
    local_if (is_sign sign.Dot)
    (local_then local_step (λ _. local_then local_name (λ method. local_give (InjectedOn service (Some method)))))
    (local_give (InjectedOn service None))))

-- ---- operators

local_option : {A : Type 0} (some : Op2 → Reading A) (none : Reading A) → ((o : Op2) → Local (some o)) → Local none → (found : Option Op2) → Local (λ input. by_option found some none input)
local_option some none a b None = record { ends = b.ends; stops = b.stops }
local_option some none a b (Some o) = record { ends = (a o).ends; stops = (a o).stops }

local_operator : {A : Type 0} {some : Op2 → Reading A} {none : Reading A} (operator : What → Option Op2) → ((o : Op2) → Local (some o)) → Local none → Local (by_operator operator some none)
local_operator {some = some} {none = none} operator a b = local_first None operator (λ found input. by_option found some none input) (local_option some none a b)

local_links : (room : ℕ) (operator : What → Option Op2) (operand : Reading Expression) → Local operand → Local (links room operator operand)
unfolding links
local_links zero operator operand a = local_operator operator (λ o. local_too_many) (local_give [])
local_links (suc room) operator operand a =
    local_operator operator
    (λ o. local_then local_step (λ _. local_then a (λ right. local_then (local_links room operator operand a) (λ rest. local_give ((o, right) ∷ rest)))))
    (local_give [])

local_chained : (operator : What → Option Op2) (operand : Reading Expression) → Local operand → Local (chained operator operand)
local_chained operator operand a =
    local_then a (λ first.
    local_operator operator (λ o. local_then (local_links (longest_list - 1) operator operand a) (λ rest. local_give (Chain first (links_of rest)))) (local_give first))

local_joined : (by : Junction) (operand : Reading Expression) → Local operand → Local (joined_by by operand)
local_joined by operand a =
    let joint = is_word (junction_word by) in
    local_then a (λ first.
    local_if joint
    (local_then (local_all joint (step >>= λ _. operand) (step_takes joint operand a) (local_then local_step (λ _. a))) (λ rest. local_give (junction_of by (first ∷ rest))))
    (local_give first))

-- ---- by what may be opened

abbrev pub LocalBelow : Option Levels → Type 0
LocalBelow None = Unit {0}
LocalBelow (Some inner) = Local inner.expr × Local inner.neg × Local inner.unary × ByFirst inner.beyond

beyond_placed : (begins too_deep : Bool) (at : ℕ) → parser_place (if begins then (if too_deep then TooDeep at else TooMany at) else Unexpected at) ≡ Some at
beyond_placed true true at = refl
beyond_placed true false at = refl
beyond_placed false too_deep at = refl

pub beyond_by_first : (deeper : Option Levels) → ByFirst (beyond_limit deeper)
unfolding beyond_limit
beyond_by_first None =
    record {
      placed = λ input. beyond_placed (comes begins_expr input) (comes opens input) (place input);
      same = λ input other alike. rw (same_comes begins_expr input other alike, same_comes opens input other alike, same_place input other alike) refl;
    }
beyond_by_first (Some inner) =
    record {
      placed = λ input. beyond_placed (comes begins_expr input) false (place input);
      same = λ input other alike. rw (same_comes begins_expr input other alike, same_place input other alike) refl;
    }

below_is : (deeper : Option Levels) → LocalBelow deeper → (inner : Levels) → deeper ≡ Some inner → LocalBelow (Some inner)
below_is deeper good inner is = subst LocalBelow is good

module _ (deeper : Option Levels) (good : LocalBelow deeper) where
  local_parenthesized : Local (parenthesized deeper)
  unfolding parenthesized
  local_parenthesized =
      local_open_sign sign.OpenParen deeper (λ inner is.
      local_then (below_is deeper good inner is).0 (λ e. local_then (local_want (is_sign sign.CloseParen)) (λ _. local_give e)))

  local_length : Local (length_of deeper)
  unfolding length_of
  local_length = local_then local_step (λ _. local_then local_parenthesized (λ e. local_give (Length e)))

  local_list : Local (list_literal deeper)
  unfolding list_literal
  local_list =
      local_then local_head (λ base.
      local_open_sign sign.OpenBracket deeper (λ inner is.
      let below = below_is deeper good inner is in
      local_then (local_items longest_list sign.CloseBracket inner.beyond inner.expr below.3 below.0) (λ xs.
      local_then (local_want (is_sign sign.CloseBracket)) (λ _. local_give (ListLiteral base (expressions_of xs))))))

  local_word : (found : List ℕ) (reserved : Option Reserved) → Local (word_atom deeper found reserved)
  unfolding word_atom
  local_word found None = local_then local_step (λ _. local_give (Variable found))
  local_word found (Some word.True) = local_then local_step (λ _. local_give (BoolLiteral true))
  local_word found (Some word.False) = local_then local_step (λ _. local_give (BoolLiteral false))
  local_word found (Some word.Injected) = local_then local_step (λ _. local_give Injected)
  local_word found (Some word.InjectedOn) = local_injected_on
  local_word found (Some word.Len) = local_length
  local_word found (Some word.List) = local_list
  local_word found (Some _) = local_unexpected

  local_atom_by : (first : Option What) → Local (atom_by deeper first)
  unfolding atom_by
  local_atom_by None = local_unexpected
  local_atom_by (Some (what.Int n)) = local_then local_step (λ _. local_give (IntLiteral n))
  local_atom_by (Some (what.Text text)) = local_then local_step (λ _. local_give (TextLiteral text))
  local_atom_by (Some (what.Sign found)) = local_parenthesized
  local_atom_by (Some (what.Word found)) = local_word found (reserved_of found)

  local_atom : Local (atom deeper)
  unfolding atom
  local_atom = local_first None Some (atom_by deeper) local_atom_by

  local_post : Local (post deeper)
  unfolding post
  local_post =
      local_then local_atom (λ list.
      local_if (is_sign sign.OpenBracket)
      (local_open deeper (λ inner is.
      local_then (below_is deeper good inner is).0 (λ place. local_then (local_want (is_sign sign.CloseBracket)) (λ _. local_give (ItemAt list place)))))
      (local_give list))

  pub local_unary : Local (unary deeper)
  unfolding unary
  local_unary =
      local_if (is_sign sign.Minus)
      (local_open deeper (λ inner is. local_then (below_is deeper good inner is).2 (λ e. local_give (Negative e))))
      local_post

  local_product : Local (product deeper)
  unfolding product
  local_product = local_chained (series_operator series.Product) (unary deeper) local_unary

  local_sum : Local (sum deeper)
  unfolding sum
  local_sum = local_chained (series_operator series.Sum) (product deeper) local_product

  local_comparison : Local (comparison deeper)
  unfolding comparison
  local_comparison =
      local_then local_sum (λ left.
      local_operator (by_sign comparison_sign) (λ o. local_then local_step (λ _. local_then local_sum (λ right. local_give (Comparison o left right))))
      (local_give left))

  pub local_neg : Local (neg deeper)
  unfolding neg
  local_neg =
      local_if (is_word word.Not)
      (local_open deeper (λ inner is. local_then (below_is deeper good inner is).1 (λ e. local_give (Not e))))
      local_comparison

  local_conjunction : Local (conjunction deeper)
  unfolding conjunction
  local_conjunction = local_joined junction.And (neg deeper) local_neg

  pub local_expr : Local (expr deeper)
  unfolding expr
  local_expr = local_joined junction.Or (conjunction deeper) local_conjunction

-- ---- by depth

pub local_below : (depth : ℕ) → LocalBelow (deeper_at depth)
unfolding deeper_at
local_below zero = tt
local_below (suc depth) =
    let below = local_below depth in
    (local_expr (deeper_at depth) below, local_neg (deeper_at depth) below, local_unary (deeper_at depth) below, beyond_by_first (deeper_at depth))

pub local_expression : (depth : ℕ) → Local (expr (deeper_at depth))
local_expression depth = local_expr (deeper_at depth) (local_below depth)
