-- An expression that some tokens spell is spelled by its canonical tokens.
use Rattle.std.proofs.Common.{◌≡◌, ℕ, zero, suc, ◌-◌, ◌≤◌, ℤ, true, false, Some, None, List, [], ◌∷◌, ◌++◌, length, append_assoc, refl, sym, ap, ◌∙◌, subst, arith, inl, inr}
use Rattle.std.specs.List.{join_by}
use Rattle.fb_base.specs.declared.kind.Kind.{Kind}
use Rattle.fb_base.specs.declared.operator.Op2.{Op2}
use Rattle.fb_syntax.specs.declared.sign.Sign.TheVariants as sign
use Rattle.fb_syntax.specs.declared.reserved.Reserved.TheVariants as word
use Rattle.fb_syntax.specs.declared.levels.Series.{Series}
use Rattle.fb_syntax.specs.declared.levels.Series.TheVariants as series
use Rattle.fb_syntax.specs.declared.levels.Junction.{Junction}
use Rattle.fb_syntax.specs.declared.levels.Junction.TheVariants as junction
use Rattle.fb_syntax.specs.declared.token.What.{What}
use Rattle.fb_syntax.specs.declared.token.What.TheVariants as what
use Rattle.fb_syntax.specs.Trees.{Expression, IntLiteral, TextLiteral, BoolLiteral, Variable, ListLiteral, Length, ItemAt, Negative, Not, Comparison, Chain, Injected, InjectedOn}
use Rattle.fb_syntax.specs.Views.{expressions_of, links_of, junction_of}
use Rattle.fb_syntax.specs.Keywords.{reserved_text}
use Rattle.fb_syntax.specs.Input.{Input}
use Rattle.fb_syntax.specs.TokenKinds.{name_of, is_word, is_sign, comma, by_sign, comparison_sign, series_operator, base_of, junction_word, int_of, content_of}
use Rattle.fb_syntax.specs.Limits.{longest_list}
use Rattle.fb_syntax.specs.Spans.{Spelling, Takes, As, Or, Pair, Behind, Before, Between, Made, Many, Listed}
use Rattle.fb_syntax.specs.ExpressionGrammar as grammar
use Rattle.fb_syntax.specs.ExpressionGrammar.{Spellings, spelled_below}
use Rattle.fb_syntax.specs.declared.levels.Level.{Level}
use Rattle.fb_syntax.specs.declared.levels.Level.TheVariants as level
use Rattle.fb_print.specs.Items.{Item, Blank, keyword, sign, comma_separated}
use Rattle.fb_syntax.specs.Levels.{rank, level_of, link_level}
use Rattle.fb_print.specs.Expressions.{operator_sign, operator_items, kind_items, list_kind_items, bracketed, bare_items, each_placed, links_items, expression_items}
use Rattle.fb_print.specs.Spelled.{item_tokens, tokens_of, Within}
use Rattle.fb_print.proofs.Flattening.{flat_join}
use Rattle.fb_print.proofs.KnownTokens.{word_known, sign_known, name_known, name_again, int_known, text_known, comparison_again, series_level, operator_again, base_printed}
use Rattle.fb_print.proofs.Respelling.{Respells, tokens_are, first_found, respells_as, respells_is, respells_pair, respells_behind, respells_before, respells_too, respells_wider, all_tokens, respells_many}
use Rattle.fb_print.proofs.Standing.{tokens_of-append, bare_tokens, placed_tokens, closed_tokens, placed_whole, Stands, loosest, looser, stands_looser, stands_own, placed_here}

-- ---- lists of expressions

-- with these tokens between them
abbrev between_tokens : Level → List What → List Expression → List What
between_tokens wanted between xs = join_by (placed_tokens wanted) between xs

further_placed : (wanted : Level) (between : List What) (xs : List Expression)
    → Rattle.std.specs.List.flat_map (λ thing. between ++ tokens_of thing) (each_placed wanted (expressions_of xs)) ≡ all_tokens (λ x. between ++ placed_tokens wanted x) xs
unfolding bare_items each_placed
further_placed wanted between [] = refl
further_placed wanted between (x ∷ xs) = ap (λ l. (between ++ placed_tokens wanted x) ++ l) (further_placed wanted between xs)

joined_tokens : (wanted : Level) (between : List Item) (x : Expression) (xs : List Expression)
    → tokens_of (join_by (λ thing. thing) between (each_placed wanted (expressions_of (x ∷ xs))))
    ≡ placed_tokens wanted x ++ all_tokens (λ y. tokens_of between ++ placed_tokens wanted y) xs
unfolding bare_items each_placed
joined_tokens wanted between x xs =
    flat_join item_tokens between (each_placed wanted (expressions_of (x ∷ xs)))
    ∙ ap (λ l. placed_tokens wanted x ++ l) (further_placed wanted (tokens_of between) xs)

-- the canonical tokens of list items
abbrev pub listed_tokens : List Expression → List What
listed_tokens xs = tokens_of (comma_separated (each_placed level.Expr (expressions_of xs)))

-- a name, as it stands
pub name_respelled : {calls : ℕ → ℕ} (x : List ℕ) (from to : Input) → As name_of from to x → Respells calls (As name_of) (what.Word x ∷ []) x from to
name_respelled x from to this = respells_as name_of (what.Word x) x from to (λ before. name_again before x) (λ before. name_known before x) this

-- the kind of a list's items
pub base_again : {calls : ℕ → ℕ} (base : Kind) (from to : Input) → As base_of from to base → Respells calls (As base_of) (tokens_of (kind_items base)) base from to
base_again base from to (found, is) =
    let one = first_found base_of from.left base found in
    let printed = base_printed one.0.what base one.3 in
    tokens_are (As base_of) base from to _ (tokens_of (kind_items base)) (ap tokens_of (sym printed.1))
    (respells_as base_of (what.Word (reserved_text printed.0)) base from to (λ before is. printed.2) (λ before is known. word_known printed.0) (found, is))

-- `list < base >`
pub head_again : {calls : ℕ → ℕ} (base : Kind) (from to : Input) → grammar.ListHead from to base
    → Respells calls grammar.ListHead (what.Word (reserved_text word.List) ∷ what.Sign sign.Less ∷ tokens_of (kind_items base) ++ what.Sign sign.Greater ∷ []) base from to
head_again base from to (mid, list, (first, less, (late, this, greater))) =
    respells_behind (is_word word.List) (what.Word (reserved_text word.List)) _ base from mid to refl (word_known word.List) list
    (respells_behind (is_sign sign.Less) (what.Sign sign.Less) _ base mid first to refl (sign_known sign.Less) less
    (respells_before (is_sign sign.Greater) (what.Sign sign.Greater) (tokens_of (kind_items base)) base first late to refl (sign_known sign.Greater) greater
    (base_again base first late this)))

-- ---- by what may be opened

-- What old tokens spell behind one that opens, the new ones spell behind one. What is an expression there is spelled again
-- at its own level also before that.
pub record Carries (calls : ℕ → ℕ) (old new : Spellings) : Type 0 where
  pub expr : (e : Expression) (from to : Input) → old.Expr from to e → Respells calls new.Expr (bare_tokens e) e from to
  pub own : (e : Expression) (from to : Input) → old.Expr from to e → Respells calls (Within (level_of e) new) (bare_tokens e) e from to
  pub neg : (e : Expression) (from to : Input) → old.Neg from to e → Respells calls new.Neg (placed_tokens level.Neg e) e from to
  pub unary : (e : Expression) (from to : Input) → old.Unary from to e → Respells calls new.Unary (placed_tokens level.Unary e) e from to
  pub items : (xs : List Expression) (from to : Input) → old.Items from to xs → Respells calls new.Items (listed_tokens xs) xs from to

module _ {calls : ℕ → ℕ} (old new : Spellings) (carries : Carries calls old new) where
  -- ---- atoms

  closed_again : (e : Expression) (from to : Input) → grammar.Parenthesized old from to e → Respells calls (grammar.Parenthesized new) (closed_tokens e) e from to
  closed_again e from to (mid, open_, (late, inner, close)) =
      respells_behind (is_sign sign.OpenParen) (what.Sign sign.OpenParen) (bare_tokens e ++ what.Sign sign.CloseParen ∷ []) e from mid to refl (sign_known sign.OpenParen) open_
      (respells_before (is_sign sign.CloseParen) (what.Sign sign.CloseParen) (bare_tokens e) e mid late to refl (sign_known sign.CloseParen) close
      (carries.expr e mid late inner))

  abbrev AtAtom : List What → Expression → Input → Input → Type 0
  AtAtom tokens e from to = Respells calls (grammar.Atom new) tokens e from to

  int_again : (n : ℤ) (from to : Input) → As int_of from to n → AtAtom (bare_tokens (IntLiteral n)) (IntLiteral n) from to
  unfolding bare_items
  int_again n from to this =
      respells_too (what.Int n ∷ []) n (IntLiteral n) from to (λ start rest again. inl (n, again, refl))
      (respells_as int_of (what.Int n) n from to (λ before is. refl) (λ before. int_known before n) this)

  text_again : (text : List ℕ) (from to : Input) → As content_of from to text → AtAtom (bare_tokens (TextLiteral text)) (TextLiteral text) from to
  unfolding bare_items
  text_again text from to this =
      respells_too (what.Text text ∷ []) text (TextLiteral text) from to (λ start rest again. inr (inl (text, again, refl)))
      (respells_as content_of (what.Text text) text from to (λ before is. refl) (λ before. text_known before text) this)

  variable_again : (x : List ℕ) (from to : Input) → As name_of from to x → AtAtom (bare_tokens (Variable x)) (Variable x) from to
  unfolding bare_items
  variable_again x from to this =
      respells_too (what.Word x ∷ []) x (Variable x) from to (λ start rest again. inr (inr (inr (inl (x, again, refl))))) (name_respelled x from to this)

  true_again : (from to : Input) → Takes (is_word word.True) from to → AtAtom (bare_tokens (BoolLiteral true)) (BoolLiteral true) from to
  unfolding bare_items
  true_again from to took =
      respells_too (bare_tokens (BoolLiteral true)) (BoolLiteral true) (BoolLiteral true) from to (λ start rest again. inr (inr (inr (inr (inl again)))))
      (respells_is (is_word word.True) (what.Word (reserved_text word.True)) (BoolLiteral true) from to refl (word_known word.True) took)

  false_again : (from to : Input) → Takes (is_word word.False) from to → AtAtom (bare_tokens (BoolLiteral false)) (BoolLiteral false) from to
  unfolding bare_items
  false_again from to took =
      respells_too (bare_tokens (BoolLiteral false)) (BoolLiteral false) (BoolLiteral false) from to (λ start rest again. inr (inr (inr (inr (inr (inl again))))))
      (respells_is (is_word word.False) (what.Word (reserved_text word.False)) (BoolLiteral false) from to refl (word_known word.False) took)

  injected_again : (from to : Input) → Takes (is_word word.Injected) from to → AtAtom (bare_tokens Injected) Injected from to
  unfolding bare_items
  injected_again from to took =
      respells_too (bare_tokens Injected) Injected Injected from to (λ start rest again. inr (inr (inr (inr (inr (inr (inl again)))))))
      (respells_is (is_word word.Injected) (what.Word (reserved_text word.Injected)) Injected from to refl (word_known word.Injected) took)

  -- behind `injected_on`
  abbrev CalledBy : Spelling Expression
  CalledBy =
      Or (Made (λ s. InjectedOn s None) (As name_of))
      (Made (λ p. InjectedOn p.0 (Some p.1)) (Pair (As name_of) (Behind (is_sign sign.Dot) (As name_of))))

  injected_on_again : (e : Expression) (from to : Input) → grammar.InjectedOnAtom from to e → Stands calls new level.Atom e from to
  unfolding bare_items
  injected_on_again e from to (mid, took, inl (s, named, is)) =
      subst (λ (x : Expression). Stands calls new level.Atom x from to) (sym is)
      (stands_own level.Atom (InjectedOn s None) from to (omega arith)
      (respells_too (bare_tokens (InjectedOn s None)) (InjectedOn s None) (InjectedOn s None) from to (λ start rest again. inr (inr (inr (inr (inr (inr (inr (inl again))))))))
      (respells_behind {This = CalledBy} (is_word word.InjectedOn) (what.Word (reserved_text word.InjectedOn)) (what.Word s ∷ []) (InjectedOn s None) from mid to refl (word_known word.InjectedOn) took
      (respells_too (what.Word s ∷ []) s (InjectedOn s None) mid to (λ start rest again. inl (s, again, refl)) (name_respelled s mid to named)))))
  injected_on_again e from to (mid, took, inr (p, (late, named, (last, dot, method)), is)) =
      let whole = InjectedOn p.0 (Some p.1) in
      subst (λ (x : Expression). Stands calls new level.Atom x from to) (sym is)
      (stands_own level.Atom whole from to (omega arith)
      (respells_too (bare_tokens whole) whole whole from to (λ start rest again. inr (inr (inr (inr (inr (inr (inr (inl again))))))))
      (respells_behind {This = CalledBy} (is_word word.InjectedOn) (what.Word (reserved_text word.InjectedOn)) (what.Word p.0 ∷ what.Sign sign.Dot ∷ what.Word p.1 ∷ []) whole from mid to refl
      (word_known word.InjectedOn) took
      (respells_too (what.Word p.0 ∷ what.Sign sign.Dot ∷ what.Word p.1 ∷ []) p whole mid to (λ start rest again. inr (p, again, refl))
      (respells_pair (what.Word p.0 ∷ []) (what.Sign sign.Dot ∷ what.Word p.1 ∷ []) p.0 p.1 mid late to (name_respelled p.0 mid late named)
      (respells_behind (is_sign sign.Dot) (what.Sign sign.Dot) (what.Word p.1 ∷ []) p.1 late last to refl (sign_known sign.Dot) dot (name_respelled p.1 last to method)))))))

  length_tokens : (e : Expression) → bare_tokens (Length e) ≡ what.Word (reserved_text word.Len) ∷ closed_tokens e
  unfolding bare_items
  length_tokens e =
      ap (λ l. what.Word (reserved_text word.Len) ∷ what.Sign sign.OpenParen ∷ l)
      (tokens_of-append (expression_items level.Expr e) (sign sign.CloseParen ∷ []) ∙ ap (λ items. tokens_of items ++ what.Sign sign.CloseParen ∷ []) (placed_whole e))

  length_again : (e : Expression) (from to : Input) → Behind (is_word word.Len) (grammar.Parenthesized old) from to e → AtAtom (bare_tokens (Length e)) (Length e) from to
  length_again e from to (mid, took, closed) =
      tokens_are (grammar.Atom new) (Length e) from to _ (bare_tokens (Length e)) (sym (length_tokens e))
      (respells_too (what.Word (reserved_text word.Len) ∷ closed_tokens e) e (Length e) from to
      (λ start rest again. inr (inr (inr (inr (inr (inr (inr (inr (inl (e, again, refl))))))))))
      (respells_behind {This = grammar.Parenthesized new} (is_word word.Len) (what.Word (reserved_text word.Len)) (closed_tokens e) e from mid to refl (word_known word.Len) took (closed_again e mid to closed)))

  list_tokens : (base : Kind) (xs : List Expression)
      → bare_tokens (ListLiteral base (expressions_of xs))
      ≡ (what.Word (reserved_text word.List) ∷ what.Sign sign.Less ∷ tokens_of (kind_items base) ++ what.Sign sign.Greater ∷ [])
      ++ (what.Sign sign.OpenBracket ∷ listed_tokens xs ++ what.Sign sign.CloseBracket ∷ [])
  unfolding bare_items
  list_tokens base xs =
      let items = comma_separated (each_placed level.Expr (expressions_of xs)) in
      let head = what.Word (reserved_text word.List) ∷ what.Sign sign.Less ∷ tokens_of (kind_items base) ++ what.Sign sign.Greater ∷ [] in
      tokens_of-append (list_kind_items (kind_items base)) (bracketed items)
      ∙ ap (λ l. (what.Word (reserved_text word.List) ∷ what.Sign sign.Less ∷ l) ++ tokens_of (bracketed items)) (tokens_of-append (kind_items base) (sign sign.Greater ∷ []))
      ∙ ap (λ l. head ++ (what.Sign sign.OpenBracket ∷ l)) (tokens_of-append items (sign sign.CloseBracket ∷ []))

  list_again : (base : Kind) (xs : List Expression) (from to : Input) → Pair grammar.ListHead (grammar.ListItems old) from to (base, xs)
      → AtAtom (bare_tokens (ListLiteral base (expressions_of xs))) (ListLiteral base (expressions_of xs)) from to
  list_again base xs from to (mid, head, (first, open_, (late, items, close))) =
      let head_tokens = what.Word (reserved_text word.List) ∷ what.Sign sign.Less ∷ tokens_of (kind_items base) ++ what.Sign sign.Greater ∷ [] in
      let item_part = what.Sign sign.OpenBracket ∷ listed_tokens xs ++ what.Sign sign.CloseBracket ∷ [] in
      let whole = ListLiteral base (expressions_of xs) in
      tokens_are (grammar.Atom new) whole from to _ (bare_tokens whole) (sym (list_tokens base xs))
      (respells_too {This = Pair grammar.ListHead (grammar.ListItems new)} (head_tokens ++ item_part) (base, xs) whole from to
      (λ start rest again. inr (inr (inr (inr (inr (inr (inr (inr (inr ((base, xs), again, refl))))))))))
      (respells_pair {That = grammar.ListItems new} head_tokens item_part base xs from mid to (head_again base from mid head)
      (respells_behind {This = Before new.Items (is_sign sign.CloseBracket)} (is_sign sign.OpenBracket) (what.Sign sign.OpenBracket) (listed_tokens xs ++ what.Sign sign.CloseBracket ∷ []) xs mid first to
      refl (sign_known sign.OpenBracket) open_
      (respells_before (is_sign sign.CloseBracket) (what.Sign sign.CloseBracket) (listed_tokens xs) xs first late to refl (sign_known sign.CloseBracket) close
      (carries.items xs first late items)))))

  atom_again : (e : Expression) (from to : Input) → grammar.Atom old from to e → Stands calls new level.Atom e from to
  atom_again e from to (inl (n, this, is)) =
      subst (λ (x : Expression). Stands calls new level.Atom x from to) (sym is) (stands_own level.Atom (IntLiteral n) from to (omega arith) (int_again n from to this))
  atom_again e from to (inr (inl (text, this, is))) =
      subst (λ (x : Expression). Stands calls new level.Atom x from to) (sym is) (stands_own level.Atom (TextLiteral text) from to (omega arith) (text_again text from to this))
  atom_again e from to (inr (inr (inl (mid, open_, (late, inner, close))))) =
      record {
        own = respells_wider (is_sign sign.OpenParen) (is_sign sign.CloseParen) (bare_tokens e) e from mid late to open_ close (carries.own e mid late inner);
        closed = λ _. closed_again e from to (mid, open_, (late, inner, close));
      }
  atom_again e from to (inr (inr (inr (inl (x, this, is))))) =
      subst (λ (x : Expression). Stands calls new level.Atom x from to) (sym is) (stands_own level.Atom (Variable x) from to (omega arith) (variable_again x from to this))
  atom_again e from to (inr (inr (inr (inr (inl (took, is)))))) =
      subst (λ (x : Expression). Stands calls new level.Atom x from to) (sym is) (stands_own level.Atom (BoolLiteral true) from to (omega arith) (true_again from to took))
  atom_again e from to (inr (inr (inr (inr (inr (inl (took, is))))))) =
      subst (λ (x : Expression). Stands calls new level.Atom x from to) (sym is) (stands_own level.Atom (BoolLiteral false) from to (omega arith) (false_again from to took))
  atom_again e from to (inr (inr (inr (inr (inr (inr (inl (took, is)))))))) =
      subst (λ (x : Expression). Stands calls new level.Atom x from to) (sym is) (stands_own level.Atom Injected from to (omega arith) (injected_again from to took))
  atom_again e from to (inr (inr (inr (inr (inr (inr (inr (inl this)))))))) = injected_on_again e from to this
  atom_again e from to (inr (inr (inr (inr (inr (inr (inr (inr (inl (x, this, is)))))))))) =
      subst (λ (x : Expression). Stands calls new level.Atom x from to) (sym is) (stands_own level.Atom (Length x) from to (omega arith) (length_again x from to this))
  atom_again e from to (inr (inr (inr (inr (inr (inr (inr (inr (inr (p, this, is)))))))))) =
      subst (λ (x : Expression). Stands calls new level.Atom x from to) (sym is)
      (stands_own level.Atom (ListLiteral p.0 (expressions_of p.1)) from to (omega arith) (list_again p.0 p.1 from to this))

  -- ---- items and unary `-`

  place_tokens : (list place : Expression)
      → bare_tokens (ItemAt list place) ≡ placed_tokens level.Atom list ++ (what.Sign sign.OpenBracket ∷ bare_tokens place ++ what.Sign sign.CloseBracket ∷ [])
  unfolding bare_items
  place_tokens list place =
      tokens_of-append (expression_items level.Atom list) (bracketed (expression_items level.Expr place))
      ∙ ap (λ l. placed_tokens level.Atom list ++ (what.Sign sign.OpenBracket ∷ l))
      (tokens_of-append (expression_items level.Expr place) (sign sign.CloseBracket ∷ []) ∙ ap (λ items. tokens_of items ++ what.Sign sign.CloseBracket ∷ []) (placed_whole place))

  post_again : (e : Expression) (from to : Input) → grammar.Post old from to e → Stands calls new level.Post e from to
  post_again e from to (inl this) = stands_looser level.Atom level.Post e from to (omega arith) (atom_again e from to this)
  post_again e from to (inr (p, (mid, this, (first, open_, (late, inner, close))), is)) =
      let whole = ItemAt p.0 p.1 in
      let place_part = what.Sign sign.OpenBracket ∷ bare_tokens p.1 ++ what.Sign sign.CloseBracket ∷ [] in
      subst (λ (x : Expression). Stands calls new level.Post x from to) (sym is)
      (stands_own level.Post whole from to (omega arith)
      (tokens_are (grammar.Post new) whole from to _ (bare_tokens whole) (sym (place_tokens p.0 p.1))
      (respells_too {This = Pair (grammar.Atom new) (Between (is_sign sign.OpenBracket) new.Expr (is_sign sign.CloseBracket))} (placed_tokens level.Atom p.0 ++ place_part) p whole from to
      (λ start rest again. inr (p, again, refl))
      (respells_pair {That = Between (is_sign sign.OpenBracket) new.Expr (is_sign sign.CloseBracket)} (placed_tokens level.Atom p.0) place_part p.0 p.1 from mid to
      (placed_here level.Atom p.0 from mid (atom_again p.0 from mid this))
      (respells_behind {This = Before new.Expr (is_sign sign.CloseBracket)} (is_sign sign.OpenBracket) (what.Sign sign.OpenBracket) (bare_tokens p.1 ++ what.Sign sign.CloseBracket ∷ []) p.1 mid first to
      refl (sign_known sign.OpenBracket) open_
      (respells_before (is_sign sign.CloseBracket) (what.Sign sign.CloseBracket) (bare_tokens p.1) p.1 first late to refl (sign_known sign.CloseBracket) close
      (carries.expr p.1 first late inner)))))))

  unary_again : (e : Expression) (from to : Input) → grammar.Unary old from to e → Stands calls new level.Unary e from to
  unfolding bare_items
  unary_again e from to (inl this) = stands_looser level.Post level.Unary e from to (omega arith) (post_again e from to this)
  unary_again e from to (inr (x, (mid, minus, this), is)) =
      subst (λ (y : Expression). Stands calls new level.Unary y from to) (sym is)
      (stands_own level.Unary (Negative x) from to (omega arith)
      (respells_too {This = Behind (is_sign sign.Minus) new.Unary} (what.Sign sign.Minus ∷ placed_tokens level.Unary x) x (Negative x) from to (λ start rest again. inr (x, again, refl))
      (respells_behind (is_sign sign.Minus) (what.Sign sign.Minus) (placed_tokens level.Unary x) x from mid to refl (sign_known sign.Minus) minus (carries.unary x mid to this))))

  -- ---- chains

  -- further operands, each behind its operator
  abbrev linked_tokens : Level → List (Op2 × Expression) → List What
  linked_tokens wanted = all_tokens (λ link. what.Sign (operator_sign link.0) ∷ placed_tokens wanted link.1)

  links_tokens : (wanted : Level) (links : List (Op2 × Expression)) → tokens_of (links_items wanted (links_of links)) ≡ linked_tokens wanted links
  unfolding bare_items links_items
  links_tokens wanted [] = refl
  links_tokens wanted (link ∷ links) =
      ap (λ l. what.Sign (operator_sign link.0) ∷ l)
      (tokens_of-append (expression_items wanted link.1) (links_items wanted (links_of links)) ∙ ap (λ l. placed_tokens wanted link.1 ++ l) (links_tokens wanted links))

  module _ (chain : Series)
      (looser_than : rank (series_level chain) ≤ rank (link_level (series_level chain)))
      (whole : (e : Expression) (start rest : Input) → grammar.Chained (series_operator chain) (Within (link_level (series_level chain)) new) start rest e → Within (series_level chain) new start rest e)
      (operand : (e : Expression) (from to : Input) → Within (link_level (series_level chain)) old from to e → Stands calls new (link_level (series_level chain)) e from to) where
    abbrev tight : Level
    tight = link_level (series_level chain)

    abbrev Linked : Spellings → Spelling (Op2 × Expression)
    Linked deeper = Pair (As (series_operator chain)) (Within tight deeper)

    link_again : (link : Op2 × Expression) (from to : Input) → Linked old from to link
        → Respells calls (Linked new) (what.Sign (operator_sign link.0) ∷ placed_tokens tight link.1) link from to
    link_again link from to (mid, found, right) =
        respells_pair (what.Sign (operator_sign link.0) ∷ []) (placed_tokens tight link.1) link.0 link.1 from mid to
        (respells_as (series_operator chain) (what.Sign (operator_sign link.0)) link.0 from mid (λ before is. (operator_again chain before link.0 is).1) (λ before is known. sign_known (operator_sign link.0)) found)
        (placed_here tight link.1 mid to (operand link.1 mid to right))

    abbrev chain_tokens : Level → Expression → List (Op2 × Expression) → List What
    chain_tokens l first links = tokens_of (expression_items (link_level l) first ++ links_items (link_level l) (links_of links))

    of_links : (first : Expression) (link : Op2 × Expression) (links : List (Op2 × Expression)) (from mid next to : Input)
        → Within tight old from mid first → Linked old mid next link → Many (Linked old) next to links → length (link ∷ links) ≤ longest_list - 1
        → Respells calls (Within (series_level chain) new) (chain_tokens (series_level chain) first (link ∷ links)) (Chain first (links_of (link ∷ links))) from to
    of_links first link links from mid next to this one more few =
        let e = Chain first (links_of (link ∷ links)) in
        tokens_are (Within (series_level chain) new) e from to _ _
        (sym (tokens_of-append (expression_items tight first) (links_items tight (links_of (link ∷ links))) ∙ ap (λ l. placed_tokens tight first ++ l) (links_tokens tight (link ∷ links))))
        (respells_too {This = Pair (Within tight new) (Many (Linked new))} (placed_tokens tight first ++ linked_tokens tight (link ∷ links)) (first, link ∷ links) e from to
        (λ start rest again. whole e start rest (inr ((first, link ∷ links), (again.0, again.1, (omega arith, (few, again.2))), refl)))
        (respells_pair {That = Many (Linked new)} (placed_tokens tight first) (linked_tokens tight (link ∷ links)) first (link ∷ links) from mid to
        (placed_here tight first from mid (operand first from mid this))
        (respells_many (Linked old) (Linked new) (λ l. what.Sign (operator_sign l.0) ∷ placed_tokens tight l.1) link_again (link ∷ links) mid to (next, one, more))))

    chained_again : (e : Expression) (from to : Input) → grammar.Chained (series_operator chain) (Within tight old) from to e → Stands calls new (series_level chain) e from to
    chained_again e from to (inl this) = stands_looser tight (series_level chain) e from to looser_than (operand e from to this)
    chained_again e from to (inr ((first, []), (mid, this, (some, many)), is)) = absurd (omega arith)
    chained_again e from to (inr ((first, link ∷ links), (mid, this, (some, (few, (next, (late, (found, behind), right), more)))), is)) =
        let before = first_found (series_operator chain) mid.left link.0 found in
        let level = (operator_again chain before.0.what link.0 before.3).0 in
        let ranks = ap rank level in
        let e = Chain first (links_of (link ∷ links)) in
        subst (λ (x : Expression). Stands calls new (series_level chain) x from to) (sym is)
        (stands_own (series_level chain) e from to (omega (arith, ranks))
        (unfold bare_items in
        subst (λ (l : Level). Respells calls (Within l new) (chain_tokens l first (link ∷ links)) e from to) (sym level)
        (of_links first link links from mid next to this (late, (found, behind), right) more few)))

  product_again : (e : Expression) (from to : Input) → grammar.Product old from to e → Stands calls new level.Product e from to
  product_again = chained_again series.Product (omega arith) (λ e start rest this. this) unary_again

  sum_again : (e : Expression) (from to : Input) → grammar.Sum old from to e → Stands calls new level.Sum e from to
  sum_again = chained_again series.Sum (omega arith) (λ e start rest this. this) product_again

  -- ---- comparisons and `not`

  compared_tokens : (o : Op2) (left right : Expression)
      → bare_tokens (Comparison o left right) ≡ placed_tokens level.Sum left ++ (what.Sign (operator_sign o) ∷ placed_tokens level.Sum right)
  unfolding bare_items
  compared_tokens o left right =
      tokens_of-append (expression_items level.Sum left ++ operator_items o) (expression_items level.Sum right)
      ∙ ap (λ l. l ++ placed_tokens level.Sum right) (tokens_of-append (expression_items level.Sum left) (operator_items o))
      ∙ append_assoc (placed_tokens level.Sum left) (what.Sign (operator_sign o) ∷ []) (placed_tokens level.Sum right)

  compared_again : (e : Expression) (from to : Input) → grammar.Compared old from to e → Stands calls new level.Compared e from to
  compared_again e from to (inl this) = stands_looser level.Sum level.Compared e from to (omega arith) (sum_again e from to this)
  compared_again e from to (inr ((left, (o, right)), (mid, this, (late, (found, behind), that)), is)) =
      let whole = Comparison o left right in
      let right_part = what.Sign (operator_sign o) ∷ placed_tokens level.Sum right in
      subst (λ (x : Expression). Stands calls new level.Compared x from to) (sym is)
      (stands_own level.Compared whole from to (omega arith)
      (tokens_are (grammar.Compared new) whole from to _ (bare_tokens whole) (sym (compared_tokens o left right))
      (respells_too {This = Pair (grammar.Sum new) (Pair (As (by_sign comparison_sign)) (grammar.Sum new))} (placed_tokens level.Sum left ++ right_part) (left, (o, right)) whole from to
      (λ start rest again. inr ((left, (o, right)), again, refl))
      (respells_pair {That = Pair (As (by_sign comparison_sign)) (grammar.Sum new)} (placed_tokens level.Sum left) right_part left (o, right) from mid to
      (placed_here level.Sum left from mid (sum_again left from mid this))
      (respells_pair (what.Sign (operator_sign o) ∷ []) (placed_tokens level.Sum right) o right mid late to
      (respells_as (by_sign comparison_sign) (what.Sign (operator_sign o)) o mid late (λ before is. comparison_again before o is) (λ before is known. sign_known (operator_sign o)) (found, behind))
      (placed_here level.Sum right late to (sum_again right late to that)))))))

  neg_again : (e : Expression) (from to : Input) → grammar.Neg old from to e → Stands calls new level.Neg e from to
  unfolding bare_items
  neg_again e from to (inl this) = stands_looser level.Compared level.Neg e from to (omega arith) (compared_again e from to this)
  neg_again e from to (inr (x, (mid, took, this), is)) =
      subst (λ (y : Expression). Stands calls new level.Neg y from to) (sym is)
      (stands_own level.Neg (Not x) from to (omega arith)
      (respells_too {This = Behind (is_word word.Not) new.Neg} (what.Word (reserved_text word.Not) ∷ placed_tokens level.Neg x) x (Not x) from to (λ start rest again. inr (x, again, refl))
      (respells_behind (is_word word.Not) (what.Word (reserved_text word.Not)) (placed_tokens level.Neg x) x from mid to refl (word_known word.Not) took (carries.neg x mid to this))))

  -- ---- `and` and `or`

  abbrev junction_level : Junction → Level
  junction_level junction.And = level.All
  junction_level junction.Or = level.Expr

  abbrev operand_level : Junction → Level
  operand_level junction.And = level.Neg
  operand_level junction.Or = level.All

  junction_is : (by : Junction) (operands : List Expression) → level_of (junction_of by operands) ≡ junction_level by
  junction_is junction.And operands = refl
  junction_is junction.Or operands = refl

  joined_in : (by : Junction) (start rest : Input) (e : Expression) → grammar.Joined by (Within (operand_level by) new) start rest e → Within (junction_level by) new start rest e
  joined_in junction.And start rest e this = this
  joined_in junction.Or start rest e this = this

  looser_than_operand : (by : Junction) → rank (junction_level by) ≤ rank (operand_level by)
  looser_than_operand junction.And = omega arith
  looser_than_operand junction.Or = omega arith

  abbrev behind_word : Junction → Expression → List What
  behind_word by x = what.Word (reserved_text (junction_word by)) ∷ placed_tokens (operand_level by) x

  junction_tokens : (by : Junction) (first : Expression) (more : List Expression)
      → bare_tokens (junction_of by (first ∷ more)) ≡ placed_tokens (operand_level by) first ++ all_tokens (behind_word by) more
  unfolding bare_items
  junction_tokens junction.And first more = joined_tokens level.Neg (Blank ∷ keyword word.And ∷ Blank ∷ []) first more
  junction_tokens junction.Or first more = joined_tokens level.All (Blank ∷ keyword word.Or ∷ Blank ∷ []) first more

  word_again : (by : Junction) → is_word (junction_word by) (what.Word (reserved_text (junction_word by))) ≡ true
  word_again junction.And = refl
  word_again junction.Or = refl

  module _ (by : Junction) (operand : (e : Expression) (from to : Input) → Within (operand_level by) old from to e → Stands calls new (operand_level by) e from to) where
    abbrev Worded : Spellings → Spelling Expression
    Worded deeper = Behind (is_word (junction_word by)) (Within (operand_level by) deeper)

    worded_again : (x : Expression) (from to : Input) → Worded old from to x → Respells calls (Worded new) (behind_word by x) x from to
    worded_again x from to (mid, took, this) =
        respells_behind (is_word (junction_word by)) (what.Word (reserved_text (junction_word by))) (placed_tokens (operand_level by) x) x from mid to
        (word_again by) (word_known (junction_word by)) took (placed_here (operand_level by) x mid to (operand x mid to this))

    joined_again : (e : Expression) (from to : Input) → grammar.Joined by (Within (operand_level by) old) from to e → Stands calls new (junction_level by) e from to
    joined_again e from to (inl this) = stands_looser (operand_level by) (junction_level by) e from to (looser_than_operand by) (operand e from to this)
    joined_again e from to (inr ((first, more), (mid, this, (some, many)), is)) =
        let whole = junction_of by (first ∷ more) in
        let ranks = ap rank (junction_is by (first ∷ more)) in
        subst (λ (x : Expression). Stands calls new (junction_level by) x from to) (sym is)
        (stands_own (junction_level by) whole from to (omega (arith, ranks))
        (subst (λ (l : Level). Respells calls (Within l new) (bare_tokens whole) whole from to) (sym (junction_is by (first ∷ more)))
        (tokens_are (Within (junction_level by) new) whole from to _ (bare_tokens whole) (sym (junction_tokens by first more))
        (respells_too {This = Pair (Within (operand_level by) new) (Many (Worded new))} (placed_tokens (operand_level by) first ++ all_tokens (behind_word by) more) (first, more) whole from to
        (λ start rest again. joined_in by start rest whole (inr ((first, more), (again.0, again.1, (some, again.2)), refl)))
        (respells_pair {That = Many (Worded new)} (placed_tokens (operand_level by) first) (all_tokens (behind_word by) more) first more from mid to
        (placed_here (operand_level by) first from mid (operand first from mid this))
        (respells_many (Worded old) (Worded new) (behind_word by) worded_again more mid to many))))))

  all_again : (e : Expression) (from to : Input) → grammar.All old from to e → Stands calls new level.All e from to
  all_again e from to this = joined_again junction.And neg_again e from to this

  pub expr_again : (e : Expression) (from to : Input) → grammar.Expr old from to e → Stands calls new level.Expr e from to
  expr_again e from to this = joined_again junction.Or all_again e from to this

  -- ---- list items

  listed_is : (x : Expression) (xs : List Expression)
      → listed_tokens (x ∷ xs) ≡ placed_tokens level.Expr x ++ all_tokens (λ y. what.Sign sign.Comma ∷ placed_tokens level.Expr y) xs
  listed_is x xs = joined_tokens level.Expr (sign sign.Comma ∷ Blank ∷ []) x xs

  abbrev Further : Spellings → Spelling Expression
  Further deeper = Behind comma (grammar.Expr deeper)

  further_again : (x : Expression) (from to : Input) → Further old from to x → Respells calls (Further new) (what.Sign sign.Comma ∷ placed_tokens level.Expr x) x from to
  further_again x from to (mid, took, this) =
      respells_behind comma (what.Sign sign.Comma) (placed_tokens level.Expr x) x from mid to refl (sign_known sign.Comma) took
      (placed_here level.Expr x mid to (expr_again x mid to this))

  pub listed_again : (most : ℕ) (xs : List Expression) (from to : Input) → Listed most (grammar.Expr old) from to xs → Respells calls (Listed most (grammar.Expr new)) (listed_tokens xs) xs from to
  unfolding each_placed
  listed_again most [] from to (few, none) =
      respells_too {This = Many (Further new)} [] [] [] from to (λ start rest again. (few, again)) (respells_many (Further old) (Further new) (λ x. what.Sign sign.Comma ∷ placed_tokens level.Expr x) further_again [] from to none)
  listed_again most (x ∷ xs) from to (few, (mid, this, more)) =
      tokens_are (Listed most (grammar.Expr new)) (x ∷ xs) from to _ (listed_tokens (x ∷ xs)) (sym (listed_is x xs))
      (respells_too {This = Pair (grammar.Expr new) (Many (Further new))} _ (x, xs) (x ∷ xs) from to (λ start rest again. (few, again))
      (respells_pair {That = Many (Further new)} (placed_tokens level.Expr x) (all_tokens (λ y. what.Sign sign.Comma ∷ placed_tokens level.Expr y) xs) x xs from mid to
      (placed_here level.Expr x from mid (expr_again x from mid this))
      (respells_many (Further old) (Further new) (λ y. what.Sign sign.Comma ∷ placed_tokens level.Expr y) further_again xs mid to more)))

-- ---- by depth

-- what old tokens spell where so many may be opened, the new ones spell wherever no fewer may be
pub carried : {calls : ℕ → ℕ} (depth deep : ℕ) → depth ≤ deep → Carries calls (spelled_below depth) (spelled_below deep)
unfolding spelled_below
carried zero deep le =
    record {
      expr = λ e from to none. absurd none;
      own = λ e from to none. absurd none;
      neg = λ e from to none. absurd none;
      unary = λ e from to none. absurd none;
      items = λ xs from to none. absurd none;
    }
carried (suc depth) zero le = absurd (omega arith)
carried {calls} (suc depth) (suc deep) le =
    let shallow = spelled_below depth in
    let less : depth ≤ deep = omega arith in
    let lower : depth ≤ suc deep = omega arith in
    let inner : Carries calls shallow (spelled_below deep) = carried depth deep less in
    let outer : Carries calls shallow (spelled_below (suc deep)) = carried depth (suc deep) lower in
    record {
      expr = λ e from to this. respells_too (bare_tokens e) e e from to
          (λ start rest again. looser (spelled_below deep) start rest e (level_of e) level.Expr (loosest (level_of e)) again)
          (expr_again shallow (spelled_below deep) inner e from to this).own;
      own = λ e from to this. (expr_again shallow (spelled_below (suc deep)) outer e from to this).own;
      neg = λ e from to this. placed_here level.Neg e from to (neg_again shallow (spelled_below deep) inner e from to this);
      unary = λ e from to this. placed_here level.Unary e from to (unary_again shallow (spelled_below deep) inner e from to this);
      items = λ xs from to these. listed_again shallow (spelled_below deep) inner longest_list xs from to these;
    }

-- what is spelled at a level is spelled again there
pub level_again : {calls : ℕ → ℕ} (depth : ℕ) (wanted : Level) (e : Expression) (from to : Input) → Within wanted (spelled_below depth) from to e
    → Stands calls (spelled_below depth) wanted e from to
level_again {calls} depth wanted e from to this =
    let deeper = spelled_below depth in
    let carries : Carries calls deeper deeper = carried depth depth (omega arith) in
    elim wanted as (λ l. Within l deeper from to e → Stands calls deeper l e from to) [
      | level.Expr ↦ expr_again deeper deeper carries e from to
      | level.All ↦ all_again deeper deeper carries e from to
      | level.Neg ↦ neg_again deeper deeper carries e from to
      | level.Compared ↦ compared_again deeper deeper carries e from to
      | level.Sum ↦ sum_again deeper deeper carries e from to
      | level.Product ↦ product_again deeper deeper carries e from to
      | level.Unary ↦ unary_again deeper deeper carries e from to
      | level.Post ↦ post_again deeper deeper carries e from to
      | level.Atom ↦ atom_again deeper deeper carries e from to
    ] this
