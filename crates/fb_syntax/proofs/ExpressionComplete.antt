-- What is spelled as an expression is read, where the next token can't go on with it.
use Rattle.std.proofs.Common.{◌≡◌, ℕ, zero, suc, ◌-◌, ◌≤◌, Bool, true, false, Option, Some, None, Ok, List, [], ◌∷◌, length, refl, sym, ap, ◌∙◌, subst, inl, inr, arith}
use Rattle.std.specs.Prelude.{◌||◌}
use Rattle.std.specs.Option.{is_some}
use Rattle.fb_base.specs.declared.kind.Kind.{Kind}
use Rattle.fb_base.specs.declared.operator.Op2.{Op2}
use Rattle.fb_syntax.specs.declared.sign.Sign.TheVariants as sign
use Rattle.fb_syntax.specs.declared.reserved.Reserved.{Reserved}
use Rattle.fb_syntax.specs.declared.reserved.Reserved.TheVariants as word
use Rattle.fb_syntax.specs.declared.levels.Junction.{Junction}
use Rattle.fb_syntax.specs.declared.levels.Junction.TheVariants as junction
use Rattle.fb_syntax.specs.declared.levels.Series.TheVariants as series
use Rattle.fb_syntax.specs.declared.token.What.{What}
use Rattle.fb_syntax.specs.declared.token.What.TheVariants as what
use Rattle.fb_syntax.specs.declared.token.Token.{Token}
use Rattle.fb_syntax.specs.Trees.{Expression, IntLiteral, TextLiteral, BoolLiteral, Variable, ListLiteral, Length, ItemAt, Negative, Not, Comparison, Chain, Injected, InjectedOn}
use Rattle.fb_syntax.specs.Views.{expressions_of, links_of, junction_of}
use Rattle.fb_syntax.specs.Input.{Input, by_first, first_what, found_at, comes}
use Rattle.fb_syntax.specs.TokenKinds.{name_of, is_word, is_sign, comma, by_sign, comparison_sign, series_operator, base_of, junction_word, int_of, content_of}
use Rattle.fb_syntax.specs.Reading.{Reading, ◌>>=◌, give, step, if_comes, want, name, too_many, open_level, open_sign, items}
use Rattle.fb_syntax.specs.Limits.{longest_list}
use Rattle.fb_syntax.specs.ExpressionReading.{Levels, by_option, by_operator, base_kind, list_head, injected_on, links, all_others, parenthesized, length_of, list_literal, word_atom, atom_by, atom, post, unary, chained, product, sum, comparison, neg, joined_by, conjunction, expr, deeper_at, beyond_limit}
use Rattle.fb_syntax.specs.Spans.{Spelling, Takes, As, Pair, Behind, Made, Many}
use Rattle.fb_syntax.specs.ExpressionGrammar.{Spellings, Chained, Joined, InjectedOnAtom, ListHead, ListItems, Parenthesized, Atom, Post, Unary, Product, Sum, Compared, Neg, All, Expr, spelled_below, goes_on_atom, goes_on_post, goes_on_product, goes_on_sum, goes_on_comparison, goes_on_all, goes_on_expr}
use Rattle.fb_syntax.proofs.Choices.{some_is}
use Rattle.fb_syntax.proofs.Sound.{Reads, step_shrinks}
use Rattle.fb_syntax.proofs.ExpressionSound.{Below, good_below, reads_neg, reads_conjunction}
use Rattle.fb_syntax.proofs.TokensOfKind.{sign_is, name_is, none_from_name}
use Rattle.fb_syntax.proofs.ReservedWords.{word_again}
use Rattle.fb_syntax.proofs.Complete.{Stops, Again, Always, Differ, Starts, step_again, want_again, taken_again, choose_this, choose_other, then_again, made_again, before_again, differ_stops, comes_as, as_comes, stands_first, comes_first, stops_parts, behind_again, behind_starts, many_stops, many_comes, all_again, items_again, open_again, open_sign_again}
use Rattle.fb_syntax.proofs.FirstTokens.{product_operator_next, sum_operator_next, comparison_operator_next, begins_atom, begins_unary, begins_neg, int_begins, text_begins, name_begins, paren_begins, word_begins_atom, atom_is_unary, minus_is_unary, unary_is_neg, not_is_neg, atom_not_minus, unary_not_not, not_sign, sign_apart, word_apart}

-- ---- operators

no_some : (o : Option Op2) → is_some o ≡ false → o ≡ None
no_some None h = refl
no_some (Some o) h = absurd cc

none_in : (operator : What → Option Op2) (left : List Token) → by_first left false (λ token. is_some (operator token)) ≡ false → by_first left None operator ≡ None
none_in operator [] stops = refl
none_in operator (first ∷ rest) stops = no_some (operator first.what) stops

none_found : (operator : What → Option Op2) (rest : Input) → Stops (λ token. is_some (operator token)) rest → found_at operator rest ≡ None
unfolding comes
none_found operator rest stops = none_in operator rest.left stops

-- where no operator comes
no_operator : {A : Type 0} (operator : What → Option Op2) (some : Op2 → Reading A) (none : Reading A) (rest : Input) (read : _)
    → Stops (λ token. is_some (operator token)) rest → none rest ≡ read → by_operator operator some none rest ≡ read
no_operator operator some none rest read stops h =
    ap (λ o. by_option o some none rest) (none_found operator rest stops) ∙ h

an_operator : {A : Type 0} (operator : What → Option Op2) (some : Op2 → Reading A) (none : Reading A) (start mid : Input) (o : Op2) (read : _)
    → As operator start mid o → some o start ≡ read → by_operator operator some none start ≡ read
an_operator operator some none start mid o read came h =
    ap (λ found. by_option found some none start) came.0 ∙ h

-- the operator that comes can't go on with what stands before it
abbrev Next : (What → Option Op2) → (What → Bool) → Type 0
Next operator goes_on = (token : What) (o : Op2) → operator token ≡ Some o → goes_on token ≡ false

as_stops : (operator : What → Option Op2) (goes_on : What → Bool) (start rest : Input) (o : Op2) → Next operator goes_on → As operator start rest o → Stops goes_on start
as_stops operator goes_on start rest o next came = as_comes operator goes_on o false start (λ token. next token o) came.0

-- what follows an operand: an operator, or what follows the chain
linked_stops : (operator : What → Option Op2) (goes_on : What → Bool) (Operand : Spelling Expression) (start rest : Input) (xs : List (Op2 × Expression))
    → Next operator goes_on → Many (Pair (As operator) Operand) start rest xs → Stops goes_on rest → Stops goes_on start
linked_stops operator goes_on Operand start rest [] next same stops = subst (λ (left : Input). Stops goes_on left) (sym same) stops
linked_stops operator goes_on Operand start rest (x ∷ xs) next (mid, (behind_it, came, this), more) stops = as_stops operator goes_on start behind_it x.0 next came

pub links_again : (room : ℕ) (operator : What → Option Op2) (goes_on : What → Bool) (operand : Reading Expression) (Operand : Spelling Expression)
    → Next operator goes_on → Again goes_on operand Operand
    → (start rest : Input) (xs : List (Op2 × Expression)) → length xs ≤ room → Many (Pair (As operator) Operand) start rest xs
    → Stops goes_on rest → Stops (λ token. is_some (operator token)) rest → links room operator operand start ≡ Ok (xs, rest)
unfolding links
links_again zero operator goes_on operand Operand next a start rest [] few same stops none =
    ap (λ left. by_operator operator (λ _. too_many) (give []) left) same ∙ no_operator operator (λ _. too_many) (give []) rest (Ok ([], rest)) none refl
links_again zero operator goes_on operand Operand next a start rest (x ∷ xs) few spelled stops none = absurd (omega arith)
links_again (suc room) operator goes_on operand Operand next a start rest [] few same stops none =
    ap (λ left. links (suc room) operator operand left) same ∙ no_operator operator _ (give []) rest (Ok ([], rest)) none refl
links_again (suc room) operator goes_on operand Operand next a start rest (x ∷ xs) few (mid, (behind_it, came, this), more) stops none =
    an_operator operator _ (give []) start behind_it x.0 (Ok (x ∷ xs, rest)) came
    (ap (λ (i : Input). (operand >>= λ right. (links room operator operand >>= λ others. give ((x.0, right) ∷ others))) i) (sym came.1)
    ∙ then_again operand (λ right. (links room operator operand >>= λ others. give ((x.0, right) ∷ others))) behind_it mid rest x.1 (x ∷ xs)
    (a.again behind_it mid x.1 this (linked_stops operator goes_on Operand mid rest xs next more stops))
    (then_again (links room operator operand) (λ others. give ((x.0, x.1) ∷ others)) mid rest rest xs (x ∷ xs)
    (links_again room operator goes_on operand Operand next a mid rest xs (omega arith) more stops none) refl))

-- operators of one level between operands
pub chained_again : (operator : What → Option Op2) (goes_on : What → Bool) (operand : Reading Expression) (Operand : Spelling Expression)
    → Next operator goes_on → Again goes_on operand Operand
    → Again (λ token. goes_on token || is_some (operator token)) (chained operator operand) (Chained operator Operand)
chained_again operator goes_on operand Operand next a =
    let room = longest_list - 1 in
    let behind_first : Expression → Reading Expression =
    λ first. by_operator operator (λ _. (links room operator operand >>= λ rest. give (Chain first (links_of rest)))) (give first) in
    record {
      again = λ start rest e. elim [
        | inl alone ↦ λ stops. (
            let parts = stops_parts goes_on (λ token. is_some (operator token)) rest stops in
            then_again operand behind_first start rest rest e e (a.again start rest e alone parts.0)
            (no_operator operator (λ _. (links room operator operand >>= λ others. give (Chain e (links_of others)))) (give e) rest (Ok (e, rest)) parts.1 refl))
        | inr chain ↦ λ stops. (
            let parts = stops_parts goes_on (λ token. is_some (operator token)) rest stops in
            let first = chain.0.0 in
            let xs = chain.0.1 in
            let mid = chain.1.0 in
            let more : Many (Pair (As operator) Operand) mid rest xs = chain.1.2.1.1 in
            then_again operand behind_first start mid rest first e
            (a.again start mid first chain.1.1 (linked_stops operator goes_on Operand mid rest xs next more parts.0))
            (chain_again mid rest first e xs chain.1.2.0 more chain.2
            (then_again (links room operator operand) (λ others. give (Chain first (links_of others))) mid rest rest xs e
            (links_again room operator goes_on operand Operand next a mid rest xs chain.1.2.1.0 more parts.0 parts.1)
            (ap (λ z. Ok (z, rest)) (sym chain.2)))))
      ];
    }
  where
    chain_again : (mid rest : Input) (first e : Expression) (xs : List (Op2 × Expression)) → 1 ≤ length xs → Many (Pair (As operator) Operand) mid rest xs → e ≡ Chain first (links_of xs)
        → (links (longest_list - 1) operator operand >>= λ others. give (Chain first (links_of others))) mid ≡ Ok (e, rest)
        → by_operator operator (λ _. (links (longest_list - 1) operator operand >>= λ others. give (Chain first (links_of others)))) (give first) mid ≡ Ok (e, rest)
    chain_again mid rest first e [] some same is read = absurd (omega arith)
    chain_again mid rest first e (x ∷ xs) some (end_one, (behind_it, came, this), more) is read =
        an_operator operator (λ _. (links (longest_list - 1) operator operand >>= λ others. give (Chain first (links_of others)))) (give first) mid behind_it x.0 (Ok (e, rest)) came read

-- ---- operands with a word between them

pub joined_again : (by : Junction) (goes_on : What → Bool) (operand : Reading Expression) (Operand : Spelling Expression)
    → Differ (is_word (junction_word by)) goes_on → Again goes_on operand Operand → Reads operand Operand
    → Again (λ token. goes_on token || is_word (junction_word by) token) (joined_by by operand) (Joined by Operand)
joined_again by goes_on operand Operand differ a s =
    let joint = is_word (junction_word by) in
    let behind_first : Expression → Reading Expression =
    λ first. if_comes joint (all_others joint operand >>= λ rest. give (junction_of by (first ∷ rest))) (give first) in
    record {
      again = λ start rest e. elim [
        | inl alone ↦ λ stops. (
            let parts = stops_parts goes_on joint rest stops in
            then_again operand behind_first start rest rest e e (a.again start rest e alone parts.0)
            (choose_other joint (all_others joint operand >>= λ more. give (junction_of by (e ∷ more))) (give e) rest (Ok (e, rest)) parts.1 refl))
        | inr many ↦ λ stops. (
            let parts = stops_parts goes_on joint rest stops in
            let first = many.0.0 in
            let xs = many.0.1 in
            let mid = many.1.0 in
            let more : Many (Behind joint Operand) mid rest xs = many.1.2.1 in
            then_again operand behind_first start mid rest first e
            (a.again start mid first many.1.1 (many_stops joint goes_on (Behind joint Operand) mid rest xs (behind_starts joint Operand) differ more parts.0))
            (choose_this joint (all_others joint operand >>= λ others. give (junction_of by (first ∷ others))) (give first) mid (Ok (e, rest)) (many_comes joint (Behind joint Operand) mid rest xs (behind_starts joint Operand) many.1.2.0 more)
            (then_again (all_others joint operand) (λ others. give (junction_of by (first ∷ others))) mid rest rest xs e
            (all_again joint goes_on (step >>= λ _. operand) (Behind joint Operand) (behind_starts joint Operand) differ (behind_again joint Operand a) (step_shrinks joint Operand s) mid rest xs more parts.0 parts.1)
            (ap (λ z. Ok (z, rest)) (sym many.2)))))
      ];
    }

-- ---- tokens that open

-- the items of a list literal are read, where the list is closed
abbrev ItemsAgain : Levels → Spelling (List Expression) → Type 0
ItemsAgain inner Items =
    (start rest : Input) (xs : List Expression) → Items start rest xs → comes (is_sign sign.CloseBracket) rest ≡ true
    → items longest_list sign.CloseBracket inner.beyond inner.expr start ≡ Ok (xs, rest)

-- what is spelled below is read
abbrev pub Above : Option Levels → Spellings → Type 0
Above None below =
    ((start rest : Input) (e : Expression) → below.Expr start rest e → ⊥)
    × ((start rest : Input) (e : Expression) → below.Neg start rest e → ⊥)
    × ((start rest : Input) (e : Expression) → below.Unary start rest e → ⊥)
    × ((start rest : Input) (xs : List Expression) → below.Items start rest xs → ⊥)
Above (Some inner) below =
    Again goes_on_expr inner.expr below.Expr × Again goes_on_comparison inner.neg below.Neg × Again goes_on_post inner.unary below.Unary × ItemsAgain inner below.Items

by_deeper : {Goal : Type 0} (deeper : Option Levels) (below : Spellings) → Above deeper below
    → (Above None below → Goal) → ((inner : Levels) → deeper ≡ Some inner → Above (Some inner) below → Goal) → Goal
by_deeper None below a none some = none a
by_deeper (Some inner) below a none some = some inner refl a

-- ---- the grammar

pub base_again : Always base_kind (As base_of)
unfolding base_kind
base_again start rest base spelled = taken_again base_of start rest base spelled

pub name_again : Always name (As name_of)
unfolding name
name_again start rest found spelled = taken_again name_of start rest found spelled

pub head_again : Always list_head ListHead
unfolding list_head
head_again start rest base (mid, came, (one, less, (two, spelled, greater))) =
    let end_head : Kind → Reading Kind = λ b. (want (is_sign sign.Greater) >>= λ _. give b) in
    step_again (want (is_sign sign.Less) >>= λ _. (base_kind >>= end_head)) (is_word word.List) start mid rest base came
    (then_again (want (is_sign sign.Less)) (λ _. (base_kind >>= end_head)) mid one rest tt base (want_again (is_sign sign.Less) mid one less)
    (then_again base_kind end_head one two rest base base (base_again one two base spelled)
    (then_again (want (is_sign sign.Greater)) (λ _. give base) two rest rest tt base (want_again (is_sign sign.Greater) two rest greater) refl)))

injected_on_again : Again goes_on_atom injected_on InjectedOnAtom
unfolding injected_on
injected_on_again =
    let with_method : List ℕ → Reading Expression = λ service. (step >>= λ _. (name >>= λ method. give (InjectedOn service (Some method)))) in
    let behind_name : List ℕ → Reading Expression = λ service. if_comes (is_sign sign.Dot) (with_method service) (give (InjectedOn service None)) in
    record {
      again = λ start rest e. λ (mid, came, either). λ stops.
          step_again (name >>= behind_name) (is_word word.InjectedOn) start mid rest e came
          (elim either [
            | inl alone ↦
                then_again name behind_name mid rest rest alone.0 e (name_again mid rest alone.0 alone.1)
                (choose_other (is_sign sign.Dot) (with_method alone.0) (give (InjectedOn alone.0 None)) rest (Ok (e, rest)) stops
                (ap (λ z. Ok (z, rest)) (sym alone.2)))
            | inr both ↦ (
                let service = both.0.0 in
                let method = both.0.1 in
                let one = both.1.0 in
                let two = both.1.2.0 in
                then_again name behind_name mid one rest service e (name_again mid one service both.1.1)
                (choose_this (is_sign sign.Dot) (with_method service) (give (InjectedOn service None)) one (Ok (e, rest)) both.1.2.1.0
                (step_again (name >>= λ m. give (InjectedOn service (Some m))) (is_sign sign.Dot) one two rest e both.1.2.1
                (then_again name (λ m. give (InjectedOn service (Some m))) two rest rest method e (name_again two rest method both.1.2.2)
                (ap (λ z. Ok (z, rest)) (sym both.2))))))
          ]);
    }

-- the reading of an atom by its first token
atom_first : (deeper : Option Levels) (token : What) (start : Input) → first_what start ≡ Some token → atom deeper start ≡ atom_by deeper (Some token) start
unfolding atom
atom_first deeper token start first = ap (λ o. atom_by deeper o start) first

-- the reading of an atom that begins with a reserved word
word_first : (deeper : Option Levels) (w : Reserved) (start mid : Input) → Takes (is_word w) start mid
    → (bytes : List ℕ) × (atom deeper start ≡ word_atom deeper bytes (Some w) start)
unfolding atom_by
word_first deeper w start mid came =
    let first = comes_first (is_word w) start came.0 in
    known first.0 first.1 first.2
  where
    known : (token : What) → first_what start ≡ Some token → is_word w token ≡ true → (bytes : List ℕ) × (atom deeper start ≡ word_atom deeper bytes (Some w) start)
    known (what.Word bytes) first of_kind = (bytes, atom_first deeper (what.Word bytes) start first ∙ ap (λ o. word_atom deeper bytes o start) (word_again bytes w of_kind))
    known (what.Int n) first of_kind = absurd (let no_way = of_kind in cc)
    known (what.Text text) first of_kind = absurd (let no_way = of_kind in cc)
    known (what.Sign s) first of_kind = absurd (let no_way = of_kind in cc)

made_step : {A : Type 0} (make : A → Expression) (thing : What → Option A) (start rest : Input) (x : A) (e : Expression)
    → As thing start rest x → e ≡ make x → (step >>= λ _. give (make x)) start ≡ Ok (e, rest)
made_step make thing start rest x e spelled is =
    ap (λ (i : Input). Ok (make x, i)) (sym spelled.1) ∙ ap (λ z. Ok (z, rest)) (sym is)

is_step : (kind : What → Bool) (thing e : Expression) (start rest : Input) → Takes kind start rest → e ≡ thing → (step >>= λ _. give thing) start ≡ Ok (e, rest)
is_step kind thing e start rest came is =
    ap (λ (i : Input). Ok (thing, i)) (sym came.1) ∙ ap (λ z. Ok (z, rest)) (sym is)

int_is : (n : _) (token : What) → int_of token ≡ Some n → token ≡ what.Int n
int_is n (what.Int found) h = ap (λ m. what.Int m) (some_is found n h)
int_is n (what.Word found) h = absurd cc
int_is n (what.Text found) h = absurd cc
int_is n (what.Sign found) h = absurd cc

text_is : (text : List ℕ) (token : What) → content_of token ≡ Some text → token ≡ what.Text text
text_is text (what.Text found) h = ap (λ (t : List ℕ). what.Text t) (some_is found text h)
text_is text (what.Word found) h = absurd cc
text_is text (what.Int found) h = absurd cc
text_is text (what.Sign found) h = absurd cc

module _ (deeper : Option Levels) (below : Spellings) (good : Below deeper below) (above : Above deeper below) where
  parenthesized_again : Always (parenthesized deeper) (Parenthesized below)
  unfolding parenthesized
  parenthesized_again start rest e (mid, came, spelled) =
      let behind_open : Levels → Reading Expression = λ inner. (inner.expr >>= λ x. (want (is_sign sign.CloseParen) >>= λ _. give x)) in
      by_deeper deeper below above
      (λ none. absurd (none.0 mid spelled.0 e spelled.1))
      (λ inner is within.
      then_again (open_sign sign.OpenParen deeper) behind_open start mid rest inner e
      (open_sign_again deeper inner sign.OpenParen start mid is came)
      (before_again (is_sign sign.CloseParen) (λ x. x) below.Expr (sign_apart sign.CloseParen goes_on_expr refl) within.0 mid rest e (e, spelled, refl)))

  length_again : Always (length_of deeper) (Made Length (Behind (is_word word.Len) (Parenthesized below)))
  unfolding length_of
  length_again start rest e (inner, (mid, came, spelled), is) =
      step_again (parenthesized deeper >>= λ x. give (Length x)) (is_word word.Len) start mid rest e came
      (then_again (parenthesized deeper) (λ x. give (Length x)) mid rest rest inner e
      (parenthesized_again mid rest inner spelled) (ap (λ z. Ok (z, rest)) (sym is)))

  list_again : Always (list_literal deeper) (Made (λ p. ListLiteral p.0 (expressions_of p.1)) (Pair ListHead (ListItems below)))
  unfolding list_literal
  list_again start rest e (parts, (mid, head, (opened, came, (closed, spelled, closing))), is) =
      let base = parts.0 in
      let xs = parts.1 in
      let behind_items : Kind → List Expression → Reading Expression = λ b ys. (want (is_sign sign.CloseBracket) >>= λ _. give (ListLiteral b (expressions_of ys))) in
      let behind_open : Kind → Levels → Reading Expression = λ b inner. (items longest_list sign.CloseBracket inner.beyond inner.expr >>= behind_items b) in
      let behind_head : Kind → Reading Expression = λ b. (open_sign sign.OpenBracket deeper >>= behind_open b) in
      then_again list_head behind_head start mid rest base e (head_again start mid base head)
      (by_deeper deeper below above
      (λ none. absurd (none.3 opened closed xs spelled))
      (λ inner known within.
      then_again (open_sign sign.OpenBracket deeper) (behind_open base) mid opened rest inner e
      (open_sign_again deeper inner sign.OpenBracket mid opened known came)
      (then_again (items longest_list sign.CloseBracket inner.beyond inner.expr) (behind_items base) opened closed rest xs e
      (within.3 opened closed xs spelled closing.0)
      (then_again (want (is_sign sign.CloseBracket)) (λ _. give (ListLiteral base (expressions_of xs))) closed rest rest tt e
      (want_again (is_sign sign.CloseBracket) closed rest closing) (ap (λ z. Ok (z, rest)) (sym is))))))

  -- a reserved word and what follows it
  word_again_as : (w : Reserved) (start mid : Input) (read : _) → Takes (is_word w) start mid
      → ((bytes : List ℕ) → word_atom deeper bytes (Some w) start ≡ read) → atom deeper start ≡ read
  word_again_as w start mid read came h = let known = word_first deeper w start mid came in known.1 ∙ h known.0

  atom_back : (start rest : Input) (e : Expression) → Atom below start rest e → Stops goes_on_atom rest → atom deeper start ≡ Ok (e, rest)
  unfolding atom_by word_atom
  atom_back start rest e (inl (n, came, made)) stops =
      let first = stands_first int_of n start came.0 in
      atom_first deeper (what.Int n) start (first.1 ∙ ap (λ token. Some token) (int_is n first.0 first.2)) ∙ made_step IntLiteral int_of start rest n e came made
  atom_back start rest e (inr (inl (text, came, made))) stops =
      let first = stands_first content_of text start came.0 in
      atom_first deeper (what.Text text) start (first.1 ∙ ap (λ token. Some token) (text_is text first.0 first.2)) ∙ made_step TextLiteral content_of start rest text e came made
  atom_back start rest e (inr (inr (inl (mid, came, spelled)))) stops =
      let first = comes_first (is_sign sign.OpenParen) start came.0 in
      atom_first deeper (what.Sign sign.OpenParen) start (first.1 ∙ ap (λ token. Some token) (sign_is sign.OpenParen first.0 first.2)) ∙ parenthesized_again start rest e (mid, came, spelled)
  atom_back start rest e (inr (inr (inr (inl (name, came, made))))) stops =
      let first = stands_first name_of name start came.0 in
      let free = name_is name first.0 first.2 in
      atom_first deeper (what.Word name) start (first.1 ∙ ap (λ token. Some token) free.0)
      ∙ ap (λ o. word_atom deeper name o start) (none_from_name name free.1)
      ∙ made_step Variable name_of start rest name e came made
  atom_back start rest e (inr (inr (inr (inr (inl (came, is)))))) stops =
      word_again_as word.True start rest (Ok (e, rest)) came (λ bytes. is_step (is_word word.True) (BoolLiteral true) e start rest came is)
  atom_back start rest e (inr (inr (inr (inr (inr (inl (came, is))))))) stops =
      word_again_as word.False start rest (Ok (e, rest)) came (λ bytes. is_step (is_word word.False) (BoolLiteral false) e start rest came is)
  atom_back start rest e (inr (inr (inr (inr (inr (inr (inl (came, is)))))))) stops =
      word_again_as word.Injected start rest (Ok (e, rest)) came (λ bytes. is_step (is_word word.Injected) Injected e start rest came is)
  atom_back start rest e (inr (inr (inr (inr (inr (inr (inr (inl on)))))))) stops =
      word_again_as word.InjectedOn start on.0 (Ok (e, rest)) on.1 (λ bytes. injected_on_again.again start rest e on stops)
  atom_back start rest e (inr (inr (inr (inr (inr (inr (inr (inr (inl len))))))))) stops =
      word_again_as word.Len start len.1.0 (Ok (e, rest)) len.1.1 (λ bytes. length_again start rest e len)
  atom_back start rest e (inr (inr (inr (inr (inr (inr (inr (inr (inr list))))))))) stops =
      word_again_as word.List start list.1.1.0 (Ok (e, rest)) list.1.1.1 (λ bytes. list_again start rest e list)

  atom_again : Again goes_on_atom (atom deeper) (Atom below)
  atom_again = record { again = atom_back }

  -- what is read behind a token that opens
  opened_again : (more : Levels → Reading Expression) (kind : What → Bool) (start mid rest : Input) (e : Expression) → Takes kind start mid
      → (Above None below → ⊥) → ((inner : Levels) → Above (Some inner) below → more inner mid ≡ Ok (e, rest))
      → (open_level deeper >>= more) start ≡ Ok (e, rest)
  opened_again more kind start mid rest e came none some =
      by_deeper deeper below above (λ a. absurd (none a))
      (λ inner is a. then_again (open_level deeper) more start mid rest inner e (open_again deeper inner kind start mid is came) (some inner a))

  abbrev item_of : Expression → Reading Expression
  item_of list = open_level deeper >>= λ inner. (inner.expr >>= λ place. (want (is_sign sign.CloseBracket) >>= λ _. give (ItemAt list place)))

  abbrev behind_list : Expression → Reading Expression
  behind_list list = if_comes (is_sign sign.OpenBracket) (item_of list) (give list)

  post_back : (start rest : Input) (e : Expression) → Post below start rest e → Stops goes_on_post rest → post deeper start ≡ Ok (e, rest)
  unfolding post
  post_back start rest e (inl alone) stops =
      let parts = stops_parts goes_on_atom (is_sign sign.OpenBracket) rest stops in
      then_again (atom deeper) behind_list start rest rest e e (atom_back start rest e alone parts.0)
      (choose_other (is_sign sign.OpenBracket) (item_of e) (give e) rest (Ok (e, rest)) parts.1 refl)
  post_back start rest e (inr ((list, place), (mid, this, (opened, came, spelled)), is)) stops =
      then_again (atom deeper) behind_list start mid rest list e
      (atom_back start mid list this (differ_stops (is_sign sign.OpenBracket) goes_on_atom mid (sign_apart sign.OpenBracket goes_on_atom refl) came.0))
      (choose_this (is_sign sign.OpenBracket) (item_of list) (give list) mid (Ok (e, rest)) came.0
      (opened_again (λ inner. (inner.expr >>= λ x. (want (is_sign sign.CloseBracket) >>= λ _. give (ItemAt list x)))) (is_sign sign.OpenBracket) mid opened rest e came
      (λ none. none.0 opened spelled.0 place spelled.1)
      (λ inner a. before_again (is_sign sign.CloseBracket) (ItemAt list) below.Expr (sign_apart sign.CloseBracket goes_on_expr refl) a.0 opened rest e (place, spelled, is))))

  atom_starts : Starts begins_atom (Atom below)
  atom_starts start rest e (inl (n, spelled, made)) = as_comes int_of begins_atom n true start (int_begins n) spelled.0
  atom_starts start rest e (inr (inl (text, spelled, made))) = as_comes content_of begins_atom text true start (text_begins text) spelled.0
  atom_starts start rest e (inr (inr (inl (mid, came, spelled)))) = comes_as (is_sign sign.OpenParen) begins_atom start paren_begins came.0
  atom_starts start rest e (inr (inr (inr (inl (name, spelled, made))))) = as_comes name_of begins_atom name true start (name_begins name) spelled.0
  atom_starts start rest e (inr (inr (inr (inr (inl (came, is)))))) = comes_as (is_word word.True) begins_atom start (word_begins_atom word.True refl) came.0
  atom_starts start rest e (inr (inr (inr (inr (inr (inl (came, is))))))) = comes_as (is_word word.False) begins_atom start (word_begins_atom word.False refl) came.0
  atom_starts start rest e (inr (inr (inr (inr (inr (inr (inl (came, is)))))))) = comes_as (is_word word.Injected) begins_atom start (word_begins_atom word.Injected refl) came.0
  atom_starts start rest e (inr (inr (inr (inr (inr (inr (inr (inl on)))))))) = comes_as (is_word word.InjectedOn) begins_atom start (word_begins_atom word.InjectedOn refl) on.1.0
  atom_starts start rest e (inr (inr (inr (inr (inr (inr (inr (inr (inl len))))))))) = comes_as (is_word word.Len) begins_atom start (word_begins_atom word.Len refl) len.1.1.0
  atom_starts start rest e (inr (inr (inr (inr (inr (inr (inr (inr (inr list))))))))) = comes_as (is_word word.List) begins_atom start (word_begins_atom word.List refl) list.1.1.1.0

  post_starts : Starts begins_atom (Post below)
  post_starts start rest e (inl alone) = atom_starts start rest e alone
  post_starts start rest e (inr item) = atom_starts start item.1.0 item.0.0 item.1.1

  abbrev negative_of : Reading Expression
  negative_of = open_level deeper >>= λ inner. (inner.unary >>= λ e. give (Negative e))

  unary_back : (start rest : Input) (e : Expression) → Unary below start rest e → Stops goes_on_post rest → unary deeper start ≡ Ok (e, rest)
  unfolding unary
  unary_back start rest e (inl plain) stops =
      choose_other (is_sign sign.Minus) negative_of (post deeper) start (Ok (e, rest))
      (differ_stops begins_atom (is_sign sign.Minus) start atom_not_minus (post_starts start rest e plain))
      (post_back start rest e plain stops)
  unary_back start rest e (inr (operand, (mid, came, spelled), is)) stops =
      choose_this (is_sign sign.Minus) negative_of (post deeper) start (Ok (e, rest)) came.0
      (opened_again (λ inner. (inner.unary >>= λ x. give (Negative x))) (is_sign sign.Minus) start mid rest e came
      (λ none. none.2 mid rest operand spelled)
      (λ inner a. (made_again Negative below.Unary a.2).again mid rest e (operand, spelled, is) stops))

  unary_again : Again goes_on_post (unary deeper) (Unary below)
  unary_again = record { again = unary_back }

  product_again : Again goes_on_product (product deeper) (Product below)
  unfolding product
  product_again = chained_again (series_operator series.Product) goes_on_post (unary deeper) (Unary below) product_operator_next unary_again

  sum_again : Again goes_on_sum (sum deeper) (Sum below)
  unfolding sum
  sum_again = chained_again (series_operator series.Sum) goes_on_product (product deeper) (Product below) sum_operator_next product_again

  chained_starts : (begins : What → Bool) (operator : What → Option Op2) (Operand : Spelling Expression) → Starts begins Operand → Starts begins (Chained operator Operand)
  chained_starts begins operator Operand starts start rest e (inl alone) = starts start rest e alone
  chained_starts begins operator Operand starts start rest e (inr chain) = starts start chain.1.0 chain.0.0 chain.1.1

  unary_starts : Starts begins_unary (Unary below)
  unary_starts start rest e (inl plain) = comes_as begins_atom begins_unary start atom_is_unary (post_starts start rest e plain)
  unary_starts start rest e (inr (operand, (mid, came, spelled), is)) = comes_as (is_sign sign.Minus) begins_unary start minus_is_unary came.0

  sum_starts : Starts begins_unary (Sum below)
  sum_starts =
      chained_starts begins_unary (series_operator series.Sum) (Product below)
      (chained_starts begins_unary (series_operator series.Product) (Unary below) unary_starts)

  abbrev compared_with : Expression → Op2 → Reading Expression
  compared_with left o = step >>= λ _. (sum deeper >>= λ right. give (Comparison o left right))

  abbrev behind_left : Expression → Reading Expression
  behind_left left = by_operator (by_sign comparison_sign) (compared_with left) (give left)

  comparison_back : (start rest : Input) (e : Expression) → Compared below start rest e → Stops goes_on_comparison rest → comparison deeper start ≡ Ok (e, rest)
  unfolding comparison
  comparison_back start rest e (inl alone) stops =
      let parts = stops_parts goes_on_sum (λ token. is_some (by_sign comparison_sign token)) rest stops in
      then_again (sum deeper) behind_left start rest rest e e (sum_again.again start rest e alone parts.0)
      (no_operator (by_sign comparison_sign) (compared_with e) (give e) rest (Ok (e, rest)) parts.1 refl)
  comparison_back start rest e (inr ((left, (o, right)), (mid, this, (two, came, that)), is)) stops =
      let parts = stops_parts goes_on_sum (λ token. is_some (by_sign comparison_sign token)) rest stops in
      then_again (sum deeper) behind_left start mid rest left e
      (sum_again.again start mid left this (as_stops (by_sign comparison_sign) goes_on_sum mid two o comparison_operator_next came))
      (an_operator (by_sign comparison_sign) (compared_with left) (give left) mid two o (Ok (e, rest)) came
      (ap (λ (i : Input). (sum deeper >>= λ r. give (Comparison o left r)) i) (sym came.1)
      ∙ then_again (sum deeper) (λ r. give (Comparison o left r)) two rest rest right e
      (sum_again.again two rest right that parts.0) (ap (λ z. Ok (z, rest)) (sym is))))

  compared_starts : Starts begins_unary (Compared below)
  compared_starts start rest e (inl alone) = sum_starts start rest e alone
  compared_starts start rest e (inr both) = sum_starts start both.1.0 both.0.0 both.1.1

  abbrev negated_of : Reading Expression
  negated_of = open_level deeper >>= λ inner. (inner.neg >>= λ e. give (Not e))

  neg_back : (start rest : Input) (e : Expression) → Neg below start rest e → Stops goes_on_comparison rest → neg deeper start ≡ Ok (e, rest)
  unfolding neg
  neg_back start rest e (inl plain) stops =
      choose_other (is_word word.Not) negated_of (comparison deeper) start (Ok (e, rest))
      (differ_stops begins_unary (is_word word.Not) start unary_not_not (compared_starts start rest e plain))
      (comparison_back start rest e plain stops)
  neg_back start rest e (inr (operand, (mid, came, spelled), is)) stops =
      choose_this (is_word word.Not) negated_of (comparison deeper) start (Ok (e, rest)) came.0
      (opened_again (λ inner. (inner.neg >>= λ x. give (Not x))) (is_word word.Not) start mid rest e came
      (λ none. none.1 mid rest operand spelled)
      (λ inner a. (made_again Not below.Neg a.1).again mid rest e (operand, spelled, is) stops))

  neg_again : Again goes_on_comparison (neg deeper) (Neg below)
  neg_again = record { again = neg_back }

  neg_starts : Starts begins_neg (Neg below)
  neg_starts start rest e (inl plain) = comes_as begins_unary begins_neg start unary_is_neg (compared_starts start rest e plain)
  neg_starts start rest e (inr (operand, (mid, came, spelled), is)) = comes_as (is_word word.Not) begins_neg start not_is_neg came.0

  joined_starts : (begins : What → Bool) (by : Junction) (Operand : Spelling Expression) → Starts begins Operand → Starts begins (Joined by Operand)
  joined_starts begins by Operand starts start rest e (inl alone) = starts start rest e alone
  joined_starts begins by Operand starts start rest e (inr many) = starts start many.1.0 many.0.0 many.1.1

  conjunction_again : Again goes_on_all (conjunction deeper) (All below)
  unfolding conjunction
  conjunction_again = joined_again junction.And goes_on_comparison (neg deeper) (Neg below) (word_apart word.And goes_on_comparison refl) neg_again (reads_neg deeper below good)

  expr_again : Again goes_on_expr (expr deeper) (Expr below)
  unfolding expr
  expr_again = joined_again junction.Or goes_on_all (conjunction deeper) (All below) (word_apart word.Or goes_on_all refl) conjunction_again (reads_conjunction deeper below good)

  pub expr_starts : Starts begins_neg (Expr below)
  expr_starts = joined_starts begins_neg junction.Or (All below) (joined_starts begins_neg junction.And (Neg below) neg_starts)

-- ---- by depth

above_below : (depth : ℕ) → Above (deeper_at depth) (spelled_below depth)
unfolding deeper_at spelled_below
above_below zero = (λ start rest e no. no, λ start rest e no. no, λ start rest e no. no, λ start rest xs no. no)
above_below (suc depth) =
    let good = good_below depth in
    let above = above_below depth in
    let inner = expr_again (deeper_at depth) (spelled_below depth) good above in (
      inner,
      neg_again (deeper_at depth) (spelled_below depth) good above,
      unary_again (deeper_at depth) (spelled_below depth) good above,
      items_again longest_list sign.CloseBracket (beyond_limit (deeper_at depth)) begins_neg goes_on_expr (expr (deeper_at depth)) (Expr (spelled_below depth))
          (sign_apart sign.Comma goes_on_expr refl) (sign_apart sign.CloseBracket goes_on_expr refl) (sign_apart sign.CloseBracket comma refl)
          (not_sign begins_neg sign.CloseBracket refl) (expr_starts (deeper_at depth) (spelled_below depth) good above) inner,
    )

pub expression_again : (depth : ℕ) → Again goes_on_expr (expr (deeper_at depth)) (Expr (spelled_below depth))
expression_again depth = expr_again (deeper_at depth) (spelled_below depth) (good_below depth) (above_below depth)

pub expression_starts : (depth : ℕ) → Starts begins_neg (Expr (spelled_below depth))
expression_starts depth = expr_starts (deeper_at depth) (spelled_below depth) (good_below depth) (above_below depth)
