-- What every expression keeps that tokens spell.
use Rattle.std.proofs.Common.{◌≡◌, ℕ, zero, suc, ◌-◌, ◌≤◌, ◌<◌, ◌⊎◌, max, nat_lt, if◌then◌else◌, Bool, true, false, Option, Some, None, List, [], ◌∷◌, length, refl, sym, ap, subst, inl, inr, arith}
use Rattle.std.specs.List.{AllByRecursion}
use Rattle.std.proofs.lemmas.Bool.{ltb-false, ltb-true}
use Rattle.fb_base.specs.declared.kind.Kind.{Kind}
use Rattle.fb_base.specs.declared.operator.Op2.{Op2}
use Rattle.fb_syntax.specs.declared.sign.Sign.{Sign}
use Rattle.fb_syntax.specs.declared.sign.Sign.TheVariants as sign
use Rattle.fb_syntax.specs.declared.reserved.Reserved.{Reserved}
use Rattle.fb_syntax.specs.declared.reserved.Reserved.TheVariants as word
use Rattle.fb_syntax.specs.declared.levels.Junction.{Junction}
use Rattle.fb_syntax.specs.declared.levels.Junction.TheVariants as junction
use Rattle.fb_syntax.specs.declared.levels.Level.{Level}
use Rattle.fb_syntax.specs.declared.levels.Level.TheVariants as level
use Rattle.fb_syntax.specs.declared.levels.Series.TheVariants as series
use Rattle.fb_syntax.specs.declared.token.What.{What}
use Rattle.fb_syntax.specs.declared.token.What.TheVariants as what
use Rattle.fb_syntax.specs.Trees.{Expression, IntLiteral, TextLiteral, BoolLiteral, Variable, ListLiteral, Length, ItemAt, Negative, Not, Comparison, Chain, Injected, InjectedOn, Links}
use Rattle.fb_syntax.specs.Levels.{rank, operator_level, chain_level, link_level, level_of, in_parentheses}
use Rattle.fb_syntax.specs.Views.{expressions_of, links_of, junction_of}
use Rattle.fb_syntax.specs.Keywords.{reserved_of}
use Rattle.fb_syntax.specs.Counts.{expressions_count, links_count, with_parentheses, nesting, expressions_nesting, links_nesting}
use Rattle.fb_syntax.specs.Kept.{IsFreeName, IsLiteral, IsLiteralText, IsComparison, IsOfSum, IsOfProduct, AllOperators, IsBase, KeepsExpression, KeepExpressions, KeepLinks}
use Rattle.fb_syntax.specs.TokenKinds.{name_of, is_word, is_sign, comma, by_sign, comparison_sign, sum_sign, product_sign, series_operator, base_of_word, base_of, junction_word, int_of, content_of}
use Rattle.fb_syntax.specs.Limits.{longest_list}
use Rattle.fb_syntax.specs.Spans.{Spelling, As, Is, Pair, Made}
use Rattle.fb_syntax.specs.ExpressionGrammar.{Spellings, Chained, Joined, InjectedOnAtom, ListHead, ListItems, Parenthesized, WordAtom, Atom, Post, Unary, Product, Sum, Compared, Neg, All, Expr, spelled_below, SpellsExpression}
use Rattle.fb_syntax.proofs.Choices.{some_is}
use Rattle.fb_syntax.proofs.TokensOfKind.{name_is}
use Rattle.fb_syntax.proofs.ProperTokens.{IsProper}
use Rattle.fb_syntax.proofs.Keeping.{Keeps, none, keeps_as, keeps_is, made_plain, keeps_weaker, keeps_or, keeps_pair, keeps_behind, keeps_between, many_plain, keeps_separated, keeps_at_least, keeps_at_most}

-- ---- what tokens stand for

free_name : (token : What) (name : List ℕ) → IsProper token → name_of token ≡ Some name → IsFreeName name
free_name token name proper h =
    let named = name_is name token h in
    (subst (λ (t : What). IsProper t) named.0 proper, named.1)

pub keeps_name : Keeps (As name_of) IsFreeName none
keeps_name = keeps_as name_of IsFreeName free_name

literal_int : (token : What) (n : _) → IsProper token → int_of token ≡ Some n → IsLiteral n
literal_int (what.Int found) n proper h = subst IsLiteral (some_is found n h) proper
literal_int (what.Word found) n proper h = absurd (let no_way = h in cc)
literal_int (what.Text found) n proper h = absurd (let no_way = h in cc)
literal_int (what.Sign found) n proper h = absurd (let no_way = h in cc)

literal_text : (token : What) (text : List ℕ) → IsProper token → content_of token ≡ Some text → IsLiteralText text
literal_text (what.Text found) text proper h = subst (λ (t : List ℕ). IsLiteralText t) (some_is found text h) proper
literal_text (what.Word found) text proper h = absurd (let no_way = h in cc)
literal_text (what.Int found) text proper h = absurd (let no_way = h in cc)
literal_text (what.Sign found) text proper h = absurd (let no_way = h in cc)

base_from_word : (w : Option Reserved) (base : Kind) → base_of_word w ≡ Some base → IsBase base
base_from_word (Some word.Int) base h = subst IsBase (some_is _ base h) tt
base_from_word (Some word.Bool) base h = subst IsBase (some_is _ base h) tt
base_from_word (Some word.Text) base h = subst IsBase (some_is _ base h) tt
base_from_word _ base h = absurd (let no_way = h in cc)

base_kept : (token : What) (base : Kind) → IsProper token → base_of token ≡ Some base → IsBase base
base_kept (what.Word found) base proper h = base_from_word (reserved_of found) base h
base_kept (what.Int found) base proper h = absurd (let no_way = h in cc)
base_kept (what.Text found) base proper h = absurd (let no_way = h in cc)
base_kept (what.Sign found) base proper h = absurd (let no_way = h in cc)

pub keeps_base : Keeps (As base_of) IsBase none
keeps_base = keeps_as base_of IsBase base_kept

comparison_kept : (s : Sign) (o : Op2) → comparison_sign s ≡ Some o → IsComparison o
comparison_kept sign.Equal o h = subst IsComparison (some_is _ o h) refl
comparison_kept sign.NotEqual o h = subst IsComparison (some_is _ o h) refl
comparison_kept sign.Less o h = subst IsComparison (some_is _ o h) refl
comparison_kept sign.LessEqual o h = subst IsComparison (some_is _ o h) refl
comparison_kept sign.Greater o h = subst IsComparison (some_is _ o h) refl
comparison_kept sign.GreaterEqual o h = subst IsComparison (some_is _ o h) refl
comparison_kept _ o h = absurd (let no_way = h in cc)

sum_kept : (s : Sign) (o : Op2) → sum_sign s ≡ Some o → IsOfSum o
sum_kept sign.Plus o h = subst IsOfSum (some_is _ o h) refl
sum_kept sign.Minus o h = subst IsOfSum (some_is _ o h) refl
sum_kept sign.PlusPlus o h = subst IsOfSum (some_is _ o h) refl
sum_kept _ o h = absurd (let no_way = h in cc)

product_kept : (s : Sign) (o : Op2) → product_sign s ≡ Some o → IsOfProduct o
product_kept sign.Star o h = subst IsOfProduct (some_is _ o h) refl
product_kept sign.Slash o h = subst IsOfProduct (some_is _ o h) refl
product_kept sign.Percent o h = subst IsOfProduct (some_is _ o h) refl
product_kept _ o h = absurd (let no_way = h in cc)

by_sign_kept : (operator : Sign → Option Op2) (Fact : Op2 → Type 0) → ((s : Sign) (o : Op2) → operator s ≡ Some o → Fact o)
    → (token : What) (o : Op2) → IsProper token → by_sign operator token ≡ Some o → Fact o
by_sign_kept operator Fact good (what.Sign s) o proper h = good s o h
by_sign_kept operator Fact good (what.Word found) o proper h = absurd (let no_way = h in cc)
by_sign_kept operator Fact good (what.Int found) o proper h = absurd (let no_way = h in cc)
by_sign_kept operator Fact good (what.Text found) o proper h = absurd (let no_way = h in cc)

keeps_operator : (operator : Sign → Option Op2) (Fact : Op2 → Type 0) → ((s : Sign) (o : Op2) → operator s ≡ Some o → Fact o)
    → Keeps (As (by_sign operator)) Fact none
keeps_operator operator Fact good = keeps_as (by_sign operator) Fact (by_sign_kept operator Fact good)

-- ---- parentheses

some_fewer : (r loose tight n : ℕ) (a b : Bool) → nat_lt r loose ≡ a → nat_lt r tight ≡ b → loose ≤ tight
    → (if a then suc n else n) ≤ (if b then suc n else n)
some_fewer r loose tight n true true x y le = omega arith
some_fewer r loose tight n true false x y le = absurd (omega (arith, ltb-true r loose x, ltb-false r tight y, le))
some_fewer r loose tight n false true x y le = omega arith
some_fewer r loose tight n false false x y le = omega arith

-- no more where the grammar reads a looser level
fewer_parentheses : (loose tight : Level) (e : Expression) (n : ℕ) → rank loose ≤ rank tight → with_parentheses loose e n ≤ with_parentheses tight e n
fewer_parentheses loose tight e n le =
    some_fewer (rank (level_of e)) (rank loose) (rank tight) n (in_parentheses loose e) (in_parentheses tight e) refl refl le

none_needed : (r wanted n : ℕ) (b : Bool) → nat_lt r wanted ≡ b → wanted ≤ r → (if b then suc n else n) ≤ n
none_needed r wanted n true x le = absurd (omega (arith, ltb-true r wanted x, le))
none_needed r wanted n false x le = omega arith

-- none at its own level
no_parentheses : (wanted : Level) (e : Expression) (n : ℕ) → level_of e ≡ wanted → with_parentheses wanted e n ≤ n
no_parentheses wanted e n is = none_needed (rank (level_of e)) (rank wanted) n (in_parentheses wanted e) refl (omega (arith, ap rank is))

by_test : (b : Bool) (n : ℕ) → (n ≤ (if b then suc n else n)) × ((if b then suc n else n) ≤ suc n)
by_test true n = (omega arith, omega arith)
by_test false n = (omega arith, omega arith)

-- one more at the most
one_more : (wanted : Level) (e : Expression) → (nesting e ≤ with_parentheses wanted e (nesting e)) × (with_parentheses wanted e (nesting e) ≤ suc (nesting e))
one_more wanted e = by_test (in_parentheses wanted e) (nesting e)

-- ---- expressions in lists

-- an expression in which at most so many are open at once, where the grammar reads this level
abbrev Nests : Level → ℕ → Expression → Type 0
Nests wanted depth e = (with_parentheses wanted e (nesting e) ≤ depth) × KeepsExpression e

-- the same, where fewer are open
abbrev NestsBelow : Level → ℕ → Expression → Type 0
NestsBelow wanted depth e = (with_parentheses wanted e (nesting e) < depth) × KeepsExpression e

keeps_looser : {This : Spelling Expression} (loose tight : Level) (depth : ℕ) → rank loose ≤ rank tight → Keeps This (Nests tight depth) none → Keeps This (Nests loose depth) none
keeps_looser loose tight depth le k = keeps_weaker (λ e h. (omega (arith, h.0, fewer_parentheses loose tight e (nesting e) le), h.1)) k

-- the operator makes an expression of this level, of operands of the level below it
abbrev Linked : Level → ℕ → Op2 × Expression → Type 0
Linked chain depth link = (operator_level link.0 ≡ chain) × Nests (link_level chain) depth link.1

pub counted : (es : List Expression) → expressions_count (expressions_of es) ≡ length es
counted [] = refl
counted (e ∷ es) = ap (λ n. suc n) (counted es)

expressions_kept : (wanted : Level) (depth : ℕ) (es : List Expression) → AllByRecursion (Nests wanted depth) es
    → (expressions_nesting wanted (expressions_of es) ≤ depth) × KeepExpressions (expressions_of es)
expressions_kept wanted depth [] h = (omega arith, tt)
expressions_kept wanted depth (e ∷ es) h =
    let more = expressions_kept wanted depth es h.1 in
    (omega (arith, h.0.0, more.0), (h.0.1, more.1))

record LinksKept (chain : Level) (depth : ℕ) (links : List (Op2 × Expression)) : Type 0 where
  counted : links_count (links_of links) ≡ length links
  nested : links_nesting (link_level chain) (links_of links) ≤ depth
  operators : AllOperators (λ operator. operator_level operator ≡ chain) (links_of links)
  operands : KeepLinks (links_of links)

links_kept : (chain : Level) (depth : ℕ) (links : List (Op2 × Expression)) → AllByRecursion (Linked chain depth) links → LinksKept chain depth links
links_kept chain depth [] h = record { counted = refl; nested = omega arith; operators = tt; operands = tt }
links_kept chain depth (link ∷ links) h =
    let more = links_kept chain depth links h.1 in
    record {
      counted = ap (λ n. suc n) more.counted;
      nested = omega (arith, h.0.1.0, more.nested);
      operators = (h.0.0, more.operators);
      operands = (h.0.1.1, more.operands);
    }

-- ---- operators between operands

-- the operators of one level
abbrev EitherLevel : Level → Type 0
EitherLevel chain =
    (links : Links) → AllOperators (λ operator. operator_level operator ≡ chain) links → AllOperators IsOfSum links ⊎ AllOperators IsOfProduct links

level_by_first : (chain : Level) (depth : ℕ) (links : List (Op2 × Expression)) → 1 ≤ length links → AllByRecursion (Linked chain depth) links
    → chain_level (links_of links) ≡ chain
level_by_first chain depth [] some all = absurd (omega (arith, some))
level_by_first chain depth (link ∷ links) some all = all.0.0

chain_nests : (chain is : Level) (depth : ℕ) (first : Expression) (links : Links) → is ≡ chain
    → with_parentheses (link_level chain) first (nesting first) ≤ depth → links_nesting (link_level chain) links ≤ depth
    → max (with_parentheses (link_level is) first (nesting first)) (links_nesting (link_level is) links) ≤ depth
chain_nests chain is depth first links same f l =
    subst (λ (own : Level). max (with_parentheses (link_level own) first (nesting first)) (links_nesting (link_level own) links) ≤ depth) (sym same)
    (omega (arith, f, l))

chain_kept : (chain : Level) (depth : ℕ) (first : Expression) (links : List (Op2 × Expression)) → EitherLevel chain
    → Nests (link_level chain) depth first → 1 ≤ length links → length links ≤ longest_list - 1 → AllByRecursion (Linked chain depth) links
    → Nests chain depth (Chain first (links_of links))
chain_kept chain depth first links level h some few all =
    let k = links_kept chain depth links all in
    let is = level_by_first chain depth links some all in
    let nests = chain_nests chain (chain_level (links_of links)) depth first (links_of links) is h.0 k.nested in
    let own = no_parentheses chain (Chain first (links_of links)) (nesting (Chain first (links_of links))) is in
    (omega (arith, own, nests), (omega (arith, k.counted, some), omega (arith, k.counted, few), level (links_of links) k.operators, h.1, k.operands))

keeps_chained : (operator : What → Option Op2) (chain : Level) (depth : ℕ) (Operand : Spelling Expression) → EitherLevel chain → rank chain ≤ rank (link_level chain)
    → Keeps (As operator) (λ o. operator_level o ≡ chain) none → Keeps Operand (Nests (link_level chain) depth) none → Keeps (Chained operator Operand) (Nests chain depth) none
keeps_chained operator chain depth Operand level le o k =
    keeps_or (keeps_looser chain (link_level chain) depth le k)
    (made_plain (λ p. Chain p.0 (links_of p.1)) (λ p h. chain_kept chain depth p.0 p.1 level h.0 h.1.0 h.1.1.0 h.1.1.1)
    (keeps_pair k (keeps_at_least 1 (keeps_at_most (longest_list - 1) (many_plain (keeps_pair o k))))))

-- what is joined, and what it joins
abbrev junction_level : Junction → Level
junction_level junction.And = level.All
junction_level junction.Or = level.Expr

abbrev operand_level : Junction → Level
operand_level junction.And = level.Neg
operand_level junction.Or = level.All

looser_than_operands : (by : Junction) → rank (junction_level by) ≤ rank (operand_level by)
looser_than_operands junction.And = omega arith
looser_than_operands junction.Or = omega arith

junction_kept : (by : Junction) (depth : ℕ) (first : Expression) (more : List Expression)
    → Nests (operand_level by) depth first → 1 ≤ length more → AllByRecursion (Nests (operand_level by) depth) more
    → Nests (junction_level by) depth (junction_of by (first ∷ more))
junction_kept junction.And depth first more h some all =
    let k = expressions_kept level.Neg depth (first ∷ more) (h, all) in
    (k.0, (omega (arith, counted more, some), k.1))
junction_kept junction.Or depth first more h some all =
    let k = expressions_kept level.All depth (first ∷ more) (h, all) in
    (k.0, (omega (arith, counted more, some), k.1))

keeps_joined : (by : Junction) (depth : ℕ) (Operand : Spelling Expression) → Keeps Operand (Nests (operand_level by) depth) none
    → Keeps (Joined by Operand) (Nests (junction_level by) depth) none
keeps_joined by depth Operand k =
    keeps_or (keeps_looser (junction_level by) (operand_level by) depth (looser_than_operands by) k)
    (made_plain (λ p. junction_of by (p.0 ∷ p.1)) (λ p h. junction_kept by depth p.0 p.1 h.0 h.1.0 h.1.1)
    (keeps_pair k (keeps_at_least 1 (many_plain (keeps_behind (is_word (junction_word by)) k)))))

-- ---- the grammar

-- items of a list, in which fewer are open
abbrev ItemsBelow : ℕ → List Expression → Type 0
ItemsBelow depth es =
    (length es ≤ longest_list) × (expressions_nesting level.Expr (expressions_of es) < depth) × KeepExpressions (expressions_of es)

record KeepsBelow (below : Spellings) (depth : ℕ) : Type 0 where
  expr : Keeps below.Expr (NestsBelow level.Expr depth) none
  neg : Keeps below.Neg (NestsBelow level.Neg depth) none
  unary : Keeps below.Unary (NestsBelow level.Unary depth) none
  items : Keeps below.Items (ItemsBelow depth) none

keeps_injected_on : (depth : ℕ) → Keeps InjectedOnAtom (Nests level.Atom depth) none
keeps_injected_on depth =
    keeps_behind (is_word word.InjectedOn)
    (keeps_or (made_plain (λ s. InjectedOn s None) (λ s h. (omega arith, (h, tt))) keeps_name)
    (made_plain (λ p. InjectedOn p.0 (Some p.1)) (λ p h. (omega arith, (h.0, h.1))) (keeps_pair keeps_name (keeps_behind (is_sign sign.Dot) keeps_name))))

pub keeps_head : Keeps ListHead IsBase none
keeps_head = keeps_behind (is_word word.List) (keeps_between (is_sign sign.Less) (is_sign sign.Greater) keeps_base)

-- a token that stands for an expression by itself
keeps_token : (kind : What → Bool) (e : Expression) (depth : ℕ) → Nests level.Atom depth e → Keeps (Is kind e) (Nests level.Atom depth) none
keeps_token kind e depth good = keeps_weaker (λ x h. subst (λ (y : Expression). Nests level.Atom depth y) (sym h) good) (keeps_is kind e)

module _ (below : Spellings) (depth : ℕ) (good : KeepsBelow below depth) where
  keeps_parenthesized : Keeps (Parenthesized below) (NestsBelow level.Expr depth) none
  keeps_parenthesized = keeps_between (is_sign sign.OpenParen) (is_sign sign.CloseParen) good.expr

  keeps_list : Keeps (Made (λ p. ListLiteral p.0 (expressions_of p.1)) (Pair ListHead (ListItems below))) (Nests level.Atom depth) none
  keeps_list =
      made_plain (λ p. ListLiteral p.0 (expressions_of p.1))
      (λ p h. (omega (arith, h.1.1), (h.0, omega (arith, h.1.0, counted p.1), h.1.2)))
      (keeps_pair keeps_head (keeps_between (is_sign sign.OpenBracket) (is_sign sign.CloseBracket) good.items))

  keeps_word_atom : Keeps (WordAtom below) (Nests level.Atom depth) none
  keeps_word_atom =
      keeps_or (made_plain Variable (λ s h. (omega arith, h)) keeps_name)
      (keeps_or (keeps_token (is_word word.True) (BoolLiteral true) depth (omega arith, tt))
      (keeps_or (keeps_token (is_word word.False) (BoolLiteral false) depth (omega arith, tt))
      (keeps_or (keeps_token (is_word word.Injected) Injected depth (omega arith, tt))
      (keeps_or (keeps_injected_on depth)
      (keeps_or (made_plain Length (λ e h. (omega (arith, h.0, (one_more level.Expr e).0), h.1)) (keeps_behind (is_word word.Len) keeps_parenthesized))
      keeps_list)))))

  keeps_atom : Keeps (Atom below) (Nests level.Atom depth) none
  keeps_atom =
      keeps_or (made_plain IntLiteral (λ n h. (omega arith, h)) (keeps_as int_of IsLiteral literal_int))
      (keeps_or (made_plain TextLiteral (λ text h. (omega arith, h)) (keeps_as content_of IsLiteralText literal_text))
      (keeps_or (keeps_weaker (λ e h. (omega (arith, h.0, (one_more level.Expr e).0, (one_more level.Atom e).1), h.1)) keeps_parenthesized) keeps_word_atom))

  keeps_post : Keeps (Post below) (Nests level.Post depth) none
  keeps_post =
      keeps_or (keeps_looser level.Post level.Atom depth (omega arith) keeps_atom)
      (made_plain (λ p. ItemAt p.0 p.1) (λ p h. (omega (arith, h.0.0, h.1.0, (one_more level.Expr p.1).0), (h.0.1, h.1.1)))
      (keeps_pair keeps_atom (keeps_between (is_sign sign.OpenBracket) (is_sign sign.CloseBracket) good.expr)))

  keeps_unary : Keeps (Unary below) (Nests level.Unary depth) none
  keeps_unary = keeps_or (keeps_looser level.Unary level.Post depth (omega arith) keeps_post) (made_plain Negative (λ e h. (omega (arith, h.0), h.1)) (keeps_behind (is_sign sign.Minus) good.unary))

  keeps_product : Keeps (Product below) (Nests level.Product depth) none
  keeps_product =
      keeps_chained (series_operator series.Product) level.Product depth (Unary below) (λ links h. inr h) (omega arith) (keeps_operator product_sign IsOfProduct product_kept) keeps_unary

  keeps_sum : Keeps (Sum below) (Nests level.Sum depth) none
  keeps_sum =
      keeps_chained (series_operator series.Sum) level.Sum depth (Product below) (λ links h. inl h) (omega arith) (keeps_operator sum_sign IsOfSum sum_kept) keeps_product

  keeps_compared : Keeps (Compared below) (Nests level.Compared depth) none
  keeps_compared =
      keeps_or (keeps_looser level.Compared level.Sum depth (omega arith) keeps_sum)
      (made_plain (λ p. Comparison p.1.0 p.0 p.1.1) (λ p h. (omega (arith, h.0.0, h.1.1.0), (h.1.0, h.0.1, h.1.1.1)))
      (keeps_pair keeps_sum (keeps_pair (keeps_operator comparison_sign IsComparison comparison_kept) keeps_sum)))

  keeps_neg : Keeps (Neg below) (Nests level.Neg depth) none
  keeps_neg = keeps_or (keeps_looser level.Neg level.Compared depth (omega arith) keeps_compared) (made_plain Not (λ e h. (omega (arith, h.0), h.1)) (keeps_behind (is_word word.Not) good.neg))

  keeps_expr : Keeps (Expr below) (Nests level.Expr depth) none
  keeps_expr = keeps_joined junction.Or depth (All below) (keeps_joined junction.And depth (Neg below) keeps_neg)

-- ---- by depth

items_kept : (depth : ℕ) (es : List Expression) → length es ≤ longest_list → AllByRecursion (Nests level.Expr depth) es → ItemsBelow (suc depth) es
items_kept depth es few all =
    let k = expressions_kept level.Expr depth es all in
    (few, omega (arith, k.0), k.1)

one_deeper : {This : Spelling Expression} (wanted : Level) (depth : ℕ) → Keeps This (Nests wanted depth) none → Keeps This (NestsBelow wanted (suc depth)) none
one_deeper wanted depth k = keeps_weaker (λ e h. (omega (arith, h.0), h.1)) k

keeps_below : (depth : ℕ) → KeepsBelow (spelled_below depth) depth
unfolding spelled_below
keeps_below zero =
    record {
      expr = record { kept = λ start rest x fine h. absurd h };
      neg = record { kept = λ start rest x fine h. absurd h };
      unary = record { kept = λ start rest x fine h. absurd h };
      items = record { kept = λ start rest x fine h. absurd h };
    }
keeps_below (suc depth) =
    let below = keeps_below depth in
    let whole = keeps_expr (spelled_below depth) depth below in
    record {
      expr = one_deeper level.Expr depth whole;
      neg = one_deeper level.Neg depth (keeps_neg (spelled_below depth) depth below);
      unary = one_deeper level.Unary depth (keeps_unary (spelled_below depth) depth below);
      items = keeps_weaker (λ es h. items_kept depth es h.0 h.1) (keeps_at_most longest_list (keeps_separated comma whole));
    }

pub expression_kept : (depth : ℕ) → Keeps (SpellsExpression depth) (λ e. (nesting e ≤ depth) × KeepsExpression e) none
expression_kept depth =
    keeps_weaker (λ e h. (omega (arith, h.0, (one_more level.Expr e).0), h.1)) (keeps_expr (spelled_below depth) depth (keeps_below depth))
