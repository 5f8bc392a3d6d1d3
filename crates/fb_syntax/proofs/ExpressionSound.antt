-- What is read as an expression is spelled so.
use Rattle.std.proofs.Common.{◌≡◌, ℕ, zero, suc, ◌-◌, ◌≤◌, ◌⊎◌, true, false, Option, Some, None, Ok, List, [], ◌∷◌, length, refl, sym, ap, ◌∙◌, subst, inl, inr, arith}
use Rattle.fb_base.specs.declared.operator.Op2.{Op2}
use Rattle.fb_syntax.specs.declared.sign.Sign.TheVariants as sign
use Rattle.fb_syntax.specs.declared.reserved.Reserved.{Reserved}
use Rattle.fb_syntax.specs.declared.reserved.Reserved.TheVariants as word
use Rattle.fb_syntax.specs.declared.levels.Junction.{Junction}
use Rattle.fb_syntax.specs.declared.levels.Junction.TheVariants as junction
use Rattle.fb_syntax.specs.declared.levels.Series.TheVariants as series
use Rattle.fb_syntax.specs.declared.token.What.{What}
use Rattle.fb_syntax.specs.declared.token.What.TheVariants as what
use Rattle.fb_syntax.specs.Trees.{Expression, IntLiteral, TextLiteral, BoolLiteral, Variable, ListLiteral, Length, ItemAt, Negative, Not, Comparison, Chain, Injected, InjectedOn}
use Rattle.fb_syntax.specs.Views.{expressions_of, links_of, junction_of}
use Rattle.fb_syntax.specs.Keywords.{reserved_of}
use Rattle.fb_syntax.specs.Input.{Input, behind, first_what, found_at}
use Rattle.fb_syntax.specs.TokenKinds.{name_of, is_word, is_sign, by_sign, comparison_sign, series_operator, base_of, junction_word, int_of, content_of}
use Rattle.fb_syntax.specs.Reading.{Reading, ◌>>=◌, step, name, items}
use Rattle.fb_syntax.specs.Limits.{longest_list}
use Rattle.fb_syntax.specs.ExpressionReading.{Levels, by_option, by_operator, base_kind, list_head, injected_on, links, all_others, parenthesized, length_of, list_literal, word_atom, atom_by, atom, post, unary, chained, product, sum, comparison, neg, joined_by, conjunction, expr, junction_operand, deeper_at, beyond_limit}
use Rattle.fb_syntax.specs.Spans.{Spelling, As, Pair, Behind, Before, Between, Made, Many, AtLeast, AtMost}
use Rattle.fb_syntax.specs.ExpressionGrammar.{Spellings, Chained, Joined, InjectedOnAtom, ListHead, ListItems, Parenthesized, WordAtom, Atom, Post, Unary, Product, Sum, Compared, Neg, All, Expr, spelled_below}
use Rattle.fb_syntax.proofs.Turns.{ok_is}
use Rattle.fb_syntax.proofs.ReservedWords.{name_from_none, word_came, first_stands}
use Rattle.fb_syntax.proofs.Sound.{Found, Reads, Given, FoundAfter, Cons, found_made, reads_then, reads_as, reads_give, reads_made, reads_behind, reads_taken, reads_if, reads_if_step, reads_before, reads_before_made, found_then, found_is, found_as_made, after_step, after_taken, took_made, then_ok, fewer, reads_cons, none_many, reads_all, all_some, reads_items, found_open, reads_open}

-- ---- choices by operators

by_none : {A : Type 0} (o : Option Op2) (some : Op2 → Reading A) (none : Reading A) (input rest : Input) (x : A) → by_option o some none input ≡ Ok (x, rest)
    → ((op : Op2) × (o ≡ Some op) × (some op input ≡ Ok (x, rest))) ⊎ ((o ≡ None) × (none input ≡ Ok (x, rest)))
by_none None some none input rest x h = inr (refl, h)
by_none (Some op) some none input rest x h = inl (op, refl, h)

-- behind an operator
abbrev Operated : {A : Type 0} → (What → Option Op2) → (Op2 → Spelling A) → Spelling A
Operated operator This start rest x = (o : Op2) × (mid : Input) × As operator start mid o × This o mid rest x

reads_operator : {A : Type 0} {more : Op2 → Reading A} {other : Reading A} (operator : What → Option Op2) (This : Op2 → Spelling A) (That : Spelling A)
    → ((o : Op2) → Reads (more o) (This o)) → Reads other That
    → Reads (by_operator operator (λ o. step >>= λ _. more o) other) (λ start rest x. Operated operator This start rest x ⊎ That start rest x)
reads_operator {A} {more = more} {other = other} operator This That a b =
    record {
      found = λ input x rest h. (
          elim (by_none (found_at operator input) (λ o. step >>= λ _. more o) other input rest x h) [
            | inl w ↦ (
                let f = (a w.0).found (behind input) x rest w.2 in
                record { spelled = inl (w.0, behind input, (w.1, refl), f.spelled); shorter = omega (arith, f.shorter, fewer input) })
            | inr w ↦ (
                let f = b.found input x rest w.1 in
                record { spelled = inr f.spelled; shorter = f.shorter })
          ]);
    }

-- where the operator that comes isn't taken
reads_by_operator : {A : Type 0} {some : Op2 → Reading A} {other : Reading A} (operator : What → Option Op2) (This : Spelling A) (That : Spelling A)
    → ((o : Op2) (input : Input) → found_at operator input ≡ Some o → (x : A) (rest : Input) → some o input ≡ Ok (x, rest) → Found This input rest x) → Reads other That
    → Reads (by_operator operator some other) (λ start rest x. This start rest x ⊎ That start rest x)
reads_by_operator {A} {some = some} {other = other} operator This That a b =
    record {
      found = λ input x rest h. (
          elim (by_none (found_at operator input) some other input rest x h) [
            | inl w ↦ (
                let f = a w.0 input w.1 x rest w.2 in
                record { spelled = inl f.spelled; shorter = f.shorter })
            | inr w ↦ (
                let f = b.found input x rest w.1 in
                record { spelled = inr f.spelled; shorter = f.shorter })
          ]);
    }

-- ---- lists

abbrev Linked : (What → Option Op2) → Spelling Expression → Spelling (Op2 × Expression)
Linked operator Operand = Pair (As operator) Operand

linked_one : (room : ℕ) (operator : What → Option Op2) (Operand : Spelling Expression) (start rest : Input) (ys : List (Op2 × Expression))
    → Operated operator (λ o. Cons (λ right. (o, right)) Operand (AtMost room (Many (Linked operator Operand)))) start rest ys
    → AtMost (suc room) (Many (Linked operator Operand)) start rest ys
linked_one room operator Operand start rest ys (o, mid, came, (x, xs, at, this, (few, more), is)) =
    subst (λ (zs : List (Op2 × Expression)). AtMost (suc room) (Many (Linked operator Operand)) start rest zs) (sym is)
    (omega (arith, few), (at, (mid, came, this), more))

pub reads_links : (room : ℕ) (operator : What → Option Op2) (operand : Reading Expression) (Operand : Spelling Expression)
    → Reads operand Operand → Reads (links room operator operand) (AtMost room (Many (Linked operator Operand)))
unfolding links
reads_links zero operator operand Operand a =
    reads_as _ (AtMost zero (Many (Linked operator Operand)))
    (λ start rest ys. elim [ inl none ↦ absurd none | inr given ↦ none_many zero (Linked operator Operand) start rest ys given ])
    (reads_by_operator operator (λ start rest xs. ⊥) (Given []) (λ o input came xs rest h. absurd (let no_way = h in cc)) (reads_give []))
reads_links (suc room) operator operand Operand a =
    reads_as _ (AtMost (suc room) (Many (Linked operator Operand)))
    (λ start rest ys. elim [ inl one ↦ linked_one room operator Operand start rest ys one | inr given ↦ none_many (suc room) (Linked operator Operand) start rest ys given ])
    (reads_operator operator (λ o. Cons (λ right. (o, right)) Operand (AtMost room (Many (Linked operator Operand)))) (Given [])
    (λ o. reads_cons (λ right. (o, right)) Operand (AtMost room (Many (Linked operator Operand))) a (reads_links room operator operand Operand a))
    (reads_give []))

links_some : (room : ℕ) (operator : What → Option Op2) (operand : Reading Expression) (input rest : Input) (o : Op2) (xs : List (Op2 × Expression))
    → found_at operator input ≡ Some o → links room operator operand input ≡ Ok (xs, rest) → 1 ≤ length xs
unfolding links
links_some zero operator operand input rest o xs came h = absurd (let no_way = rw came at h in cc)
links_some (suc room) operator operand input rest o xs came h =
    let one = then_ok (operand (behind input)) _ xs rest (rw came at h) in
    let more = then_ok (links room operator operand one.1) _ xs rest one.3 in
    let same = ap (λ (p : List (Op2 × Expression) × Input). p.0) (ok_is ((o, one.0) ∷ more.0, more.1) (xs, rest) more.3) in
    subst (λ (ys : List (Op2 × Expression)). 1 ≤ length ys) same (omega arith)

-- operators of one level between operands
pub reads_chained : (operator : What → Option Op2) (operand : Reading Expression) (Operand : Spelling Expression)
    → Reads operand Operand → Reads (chained operator operand) (Chained operator Operand)
reads_chained operator operand Operand a =
    let room = longest_list - 1 in
    let Rest : Spelling (List (Op2 × Expression)) = AtMost room (Many (Linked operator Operand)) in
    reads_as _ (Chained operator Operand)
    (λ start rest e. λ (first, mid, this, either). elim either [
      | inl chain ↦ inr ((first, chain.0), (mid, this, chain.1), chain.2)
      | inr given ↦ inl (subst (λ (x : Expression). Operand start rest x) (sym given.1) (subst (λ (m : Input). Operand start m first) given.0 this))
    ])
    (reads_then Operand _ a (λ first.
    reads_by_operator operator (Made (λ rest. Chain first (links_of rest)) (AtLeast 1 Rest)) (Given first)
    (λ o input came e rest h. found_made (λ rest. Chain first (links_of rest)) (AtLeast 1 Rest) (links room operator operand input) input rest e
    (λ xs read. (
    let f = (reads_links room operator operand Operand a).found input xs rest read in
    record { spelled = (links_some room operator operand input rest o xs came read, f.spelled); shorter = f.shorter }))
    h)
    (reads_give first)))

-- operands with a word between them
pub reads_joined : (by : Junction) (operand : Reading Expression) (Operand : Spelling Expression)
    → Reads operand Operand → Reads (joined_by by operand) (Joined by Operand)
reads_joined by operand Operand a =
    let joint = is_word (junction_word by) in
    reads_as _ (Joined by Operand)
    (λ start rest e. λ (first, mid, this, either). elim either [
      | inl more ↦ inr ((first, more.0), (mid, this, more.1), more.2)
      | inr given ↦ inl (subst (λ (x : Expression). Operand start rest x) (sym given.1) (subst (λ (m : Input). Operand start m first) given.0 this))
    ])
    (reads_then Operand _ a (λ first.
    reads_if joint (Made (λ rest. junction_of by (first ∷ rest)) (AtLeast 1 (Many (Behind joint Operand)))) (Given first)
    (λ input came e rest h. found_made (λ rest. junction_of by (first ∷ rest)) (AtLeast 1 (Many (Behind joint Operand))) (all_others joint operand input) input rest e
    (λ xs read. (
    let f = (reads_all joint (step >>= λ _. operand) (Behind joint Operand) (after_step joint Operand a)).found input xs rest read in
    record { spelled = (all_some joint (step >>= λ _. operand) input rest xs came read, f.spelled); shorter = f.shorter }))
    h)
    (reads_give first)))

-- ---- tokens that open

-- what is read below is spelled so
abbrev pub Below : Option Levels → Spellings → Type 0
Below None below = Unit {0}
Below (Some inner) below =
    Reads inner.expr below.Expr × Reads inner.neg below.Neg × Reads inner.unary below.Unary × Reads (items longest_list sign.CloseBracket inner.beyond inner.expr) below.Items

below_is : (deeper : Option Levels) (below : Spellings) → Below deeper below → (inner : Levels) → deeper ≡ Some inner → Below (Some inner) below
below_is deeper below good inner is = subst (λ (o : Option Levels). Below o below) is good

-- ---- the grammar

pub reads_name : Reads name (As name_of)
unfolding name
reads_name = reads_taken name_of

pub reads_base : Reads base_kind (As base_of)
unfolding base_kind
reads_base = reads_taken base_of

pub found_as : {A : Type 0} (This That : Spelling A) (input rest : Input) (x : A) → (This input rest x → That input rest x) → Found This input rest x → Found That input rest x
found_as This That input rest x on f = record { spelled = on f.spelled; shorter = f.shorter }

pub reads_head : FoundAfter (is_word word.List) list_head ListHead
unfolding list_head
reads_head =
    after_step (is_word word.List) (Between (is_sign sign.Less) (As base_of) (is_sign sign.Greater))
    (reads_behind (is_sign sign.Less) (Before (As base_of) (is_sign sign.Greater)) (reads_before (is_sign sign.Greater) (As base_of) reads_base))

reads_injected_on : FoundAfter (is_word word.InjectedOn) injected_on InjectedOnAtom
unfolding injected_on
reads_injected_on input first e rest h =
    found_as _ InjectedOnAtom input rest e
    (λ (mid, word, (service, at, named, either)). (
      mid,
      word,
      elim either [
        | inl with_method ↦ (let m = with_method.2 in inr ((service, m.0), (at, named, (with_method.0, with_method.1, m.1)), m.2))
        | inr given ↦ inl (service, subst (λ (r : Input). As name_of mid r service) given.0 named, given.1)
      ],
    ))
    (after_step (is_word word.InjectedOn) _
    (reads_then (As name_of) _ reads_name (λ service.
    reads_if_step (is_sign sign.Dot) (Made (λ method. InjectedOn service (Some method)) (As name_of)) (Given (InjectedOn service None))
    (reads_made (λ method. InjectedOn service (Some method)) (As name_of) reads_name)
    (reads_give (InjectedOn service None))))
    input first e rest h)

module _ (deeper : Option Levels) (below : Spellings) (good : Below deeper below) where
  reads_parenthesized : Reads (parenthesized deeper) (Parenthesized below)
  unfolding parenthesized
  reads_parenthesized =
      reads_open deeper sign.OpenParen (Before below.Expr (is_sign sign.CloseParen))
      (λ inner is. let within = below_is deeper below good inner is in reads_before (is_sign sign.CloseParen) below.Expr within.0)

  found_length : FoundAfter (is_word word.Len) (length_of deeper) (Made Length (Behind (is_word word.Len) (Parenthesized below)))
  unfolding length_of
  found_length =
      after_taken (is_word word.Len) (Made Length (Behind (is_word word.Len) (Parenthesized below)))
      (took_made (is_word word.Len) Length (Parenthesized below) (reads_made Length (Parenthesized below) reads_parenthesized))

  found_list : FoundAfter (is_word word.List) (list_literal deeper) (Made (λ p. ListLiteral p.0 (expressions_of p.1)) (Pair ListHead (ListItems below)))
  unfolding list_literal
  found_list input first e rest h =
      let All : Spelling Expression = Made (λ p. ListLiteral p.0 (expressions_of p.1)) (Pair ListHead (ListItems below)) in
      let parts = then_ok (list_head input) _ e rest h in
      let base = parts.0 in
      let Rest : Spelling Expression =
      Behind (is_sign sign.OpenBracket) (Made (λ xs. ListLiteral base (expressions_of xs)) (Before below.Items (is_sign sign.CloseBracket))) in
      let head = reads_head input first base parts.1 parts.2 in
      let behind_head : Reads _ Rest =
      reads_open deeper sign.OpenBracket (Made (λ xs. ListLiteral base (expressions_of xs)) (Before below.Items (is_sign sign.CloseBracket)))
      (λ inner is. let within = below_is deeper below good inner is in reads_before_made (is_sign sign.CloseBracket) (λ xs. ListLiteral base (expressions_of xs)) below.Items
      within.3) in
      found_then ListHead Rest All input parts.1 rest base e
      (λ p. λ (mid, bracket, (xs, spelled, is)). ((base, xs), (parts.1, p, (mid, bracket, spelled)), is))
      head (behind_head.found parts.1 e rest parts.3)

  word_found : (bytes : List ℕ) (reserved : Option Reserved) (input : Input) → first_what input ≡ Some (what.Word bytes) → reserved_of bytes ≡ reserved
      → (e : Expression) (rest : Input) → word_atom deeper bytes reserved input ≡ Ok (e, rest) → Found (WordAtom below) input rest e
  unfolding word_atom
  word_found bytes None input first is e rest h =
      let named : name_of (what.Word bytes) ≡ Some bytes = rw (name_from_none bytes is) refl in
      found_as _ (WordAtom below) input rest e inl (found_as_made name_of Variable bytes e input rest (first_stands name_of (what.Word bytes) input first ∙ named) h)
  word_found bytes (Some word.True) input first is e rest h =
      found_as _ (WordAtom below) input rest e (λ s. inr (inl s)) (found_is (is_word word.True) (BoolLiteral true) e input rest (word_came word.True bytes input first is) h)
  word_found bytes (Some word.False) input first is e rest h =
      found_as _ (WordAtom below) input rest e (λ s. inr (inr (inl s))) (found_is (is_word word.False) (BoolLiteral false) e input rest (word_came word.False bytes input first is) h)
  word_found bytes (Some word.Injected) input first is e rest h =
      found_as _ (WordAtom below) input rest e (λ s. inr (inr (inr (inl s)))) (found_is (is_word word.Injected) Injected e input rest (word_came word.Injected bytes input first is) h)
  word_found bytes (Some word.InjectedOn) input first is e rest h =
      found_as _ (WordAtom below) input rest e (λ s. inr (inr (inr (inr (inl s))))) (reads_injected_on input (word_came word.InjectedOn bytes input first is) e rest h)
  word_found bytes (Some word.Len) input first is e rest h =
      found_as _ (WordAtom below) input rest e (λ s. inr (inr (inr (inr (inr (inl s)))))) (found_length input (word_came word.Len bytes input first is) e rest h)
  word_found bytes (Some word.List) input first is e rest h =
      found_as _ (WordAtom below) input rest e (λ s. inr (inr (inr (inr (inr (inr s)))))) (found_list input (word_came word.List bytes input first is) e rest h)
  word_found bytes (Some _) input first is e rest h = absurd (let no_way = h in cc)

  atom_found : (first : Option What) (input : Input) → first_what input ≡ first → (e : Expression) (rest : Input) → atom_by deeper first input ≡ Ok (e, rest) → Found (Atom below) input rest e
  unfolding atom_by
  atom_found None input is e rest h = absurd (let no_way = h in cc)
  atom_found (Some (what.Int n)) input is e rest h =
      found_as _ (Atom below) input rest e inl (found_as_made int_of IntLiteral n e input rest (first_stands int_of (what.Int n) input is) h)
  atom_found (Some (what.Text text)) input is e rest h =
      found_as _ (Atom below) input rest e (λ s. inr (inl s)) (found_as_made content_of TextLiteral text e input rest (first_stands content_of (what.Text text) input is) h)
  atom_found (Some (what.Sign found)) input is e rest h =
      found_as _ (Atom below) input rest e (λ s. inr (inr (inl s))) (reads_parenthesized.found input e rest h)
  atom_found (Some (what.Word bytes)) input is e rest h =
      found_as _ (Atom below) input rest e (λ s. inr (inr (inr s))) (word_found bytes (reserved_of bytes) input is refl e rest h)

  pub reads_atom : Reads (atom deeper) (Atom below)
  unfolding atom
  reads_atom = record { found = λ input e rest h. atom_found (first_what input) input refl e rest h }

  pub reads_post : Reads (post deeper) (Post below)
  unfolding post
  reads_post =
      reads_as _ (Post below)
      (λ start rest e. λ (list, mid, this, either). elim either [
        | inl item ↦ (let place = item.2 in inr ((list, place.0), (mid, this, (item.0, item.1, place.1)), place.2))
        | inr given ↦ inl (subst (λ (x : Expression). Atom below start rest x) (sym given.1) (subst (λ (m : Input). Atom below start m list) given.0 this))
      ])
      (reads_then (Atom below) _ reads_atom (λ list.
      reads_if (is_sign sign.OpenBracket) (Behind (is_sign sign.OpenBracket) (Made (λ place. ItemAt list place) (Before below.Expr (is_sign sign.CloseBracket)))) (Given list)
      (found_open deeper (is_sign sign.OpenBracket) (Made (λ place. ItemAt list place) (Before below.Expr (is_sign sign.CloseBracket)))
      (λ inner is. let within = below_is deeper below good inner is in reads_before_made (is_sign sign.CloseBracket) (λ place. ItemAt list place) below.Expr within.0))
      (reads_give list)))

  pub reads_unary : Reads (unary deeper) (Unary below)
  unfolding unary
  reads_unary =
      reads_as _ (Unary below)
      (λ start rest e. elim [
        | inl negative ↦ (let made = negative.2 in inr (made.0, (negative.0, negative.1, made.1), made.2))
        | inr plain ↦ inl plain
      ])
      (reads_if (is_sign sign.Minus) (Behind (is_sign sign.Minus) (Made Negative below.Unary)) (Post below)
      (found_open deeper (is_sign sign.Minus) (Made Negative below.Unary) (λ inner is. let within = below_is deeper below good inner is in reads_made Negative below.Unary within.2))
      reads_post)

  reads_product : Reads (product deeper) (Product below)
  unfolding product
  reads_product = reads_chained (series_operator series.Product) (unary deeper) (Unary below) reads_unary

  reads_sum : Reads (sum deeper) (Sum below)
  unfolding sum
  reads_sum = reads_chained (series_operator series.Sum) (product deeper) (Product below) reads_product

  reads_comparison : Reads (comparison deeper) (Compared below)
  unfolding comparison
  reads_comparison =
      reads_as _ (Compared below)
      (λ start rest e. λ (left, mid, this, either). elim either [
        | inl compared ↦ (let right = compared.3 in inr ((left, (compared.0, right.0)), (mid, this, (compared.1, compared.2, right.1)), right.2))
        | inr given ↦ inl (subst (λ (x : Expression). Sum below start rest x) (sym given.1) (subst (λ (m : Input). Sum below start m left) given.0 this))
      ])
      (reads_then (Sum below) _ reads_sum (λ left.
      reads_operator (by_sign comparison_sign) (λ o. Made (λ right. Comparison o left right) (Sum below)) (Given left)
      (λ o. reads_made (λ right. Comparison o left right) (Sum below) reads_sum)
      (reads_give left)))

  pub reads_neg : Reads (neg deeper) (Neg below)
  unfolding neg
  reads_neg =
      reads_as _ (Neg below)
      (λ start rest e. elim [
        | inl negated ↦ (let made = negated.2 in inr (made.0, (negated.0, negated.1, made.1), made.2))
        | inr plain ↦ inl plain
      ])
      (reads_if (is_word word.Not) (Behind (is_word word.Not) (Made Not below.Neg)) (Compared below)
      (found_open deeper (is_word word.Not) (Made Not below.Neg) (λ inner is. let within = below_is deeper below good inner is in reads_made Not below.Neg within.1))
      reads_comparison)

  pub reads_conjunction : Reads (conjunction deeper) (All below)
  unfolding conjunction
  reads_conjunction = reads_joined junction.And (neg deeper) (Neg below) reads_neg

  pub reads_expr : Reads (expr deeper) (Expr below)
  unfolding expr
  reads_expr = reads_joined junction.Or (conjunction deeper) (All below) reads_conjunction

-- ---- by depth

pub good_below : (depth : ℕ) → Below (deeper_at depth) (spelled_below depth)
unfolding deeper_at spelled_below
good_below zero = tt
good_below (suc depth) = (
  reads_expr (deeper_at depth) (spelled_below depth) (good_below depth),
  reads_neg (deeper_at depth) (spelled_below depth) (good_below depth),
  reads_unary (deeper_at depth) (spelled_below depth) (good_below depth),
  reads_items longest_list sign.CloseBracket (beyond_limit (deeper_at depth)) (expr (deeper_at depth)) (Expr (spelled_below depth)) (omega arith)
      (reads_expr (deeper_at depth) (spelled_below depth) (good_below depth)),
)

pub expression_sound : (depth : ℕ) → Reads (expr (deeper_at depth)) (Expr (spelled_below depth))
expression_sound depth = reads_expr (deeper_at depth) (spelled_below depth) (good_below depth)

pub operand_sound : (depth : ℕ) (by : Junction) → (input : Input) (e : Expression) (rest : Input) → junction_operand (deeper_at depth) by input ≡ Ok (e, rest) → length rest.left ≤ length input.left
operand_sound depth junction.And input e rest h = ((reads_neg (deeper_at depth) (spelled_below depth) (good_below depth)).found input e rest h).shorter
operand_sound depth junction.Or input e rest h = ((reads_conjunction (deeper_at depth) (spelled_below depth) (good_below depth)).found input e rest h).shorter
