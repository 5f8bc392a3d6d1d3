-- The levels at which an expression can be spelled again.
use Rattle.std.proofs.Common.{◌≡◌, ℕ, zero, suc, ◌<◌, ◌≤◌, ◌⊎◌, Bool, true, false, List, [], ◌∷◌, ◌++◌, refl, sym, ap, subst, arith, inl, inr, if◌then◌else◌}
use Rattle.std.proofs.lemmas.Grind.{flat_map-append}
use Rattle.std.proofs.lemmas.Bool.{ltb-false, ltb-true, le-ltb}
use Rattle.fb_syntax.specs.declared.sign.Sign.TheVariants as sign
use Rattle.fb_syntax.specs.declared.token.What.{What}
use Rattle.fb_syntax.specs.declared.token.What.TheVariants as what
use Rattle.fb_syntax.specs.Trees.{Expression}
use Rattle.fb_syntax.specs.Input.{Input}
use Rattle.fb_syntax.specs.ExpressionGrammar as grammar
use Rattle.fb_syntax.specs.ExpressionGrammar.{Spellings}
use Rattle.fb_syntax.specs.declared.levels.Level.{Level}
use Rattle.fb_syntax.specs.declared.levels.Level.TheVariants as level
use Rattle.fb_print.specs.Items.{Item, sign}
use Rattle.fb_syntax.specs.Levels.{rank, level_of, in_parentheses}
use Rattle.fb_print.specs.Levels.{parenthesized}
use Rattle.fb_print.specs.Expressions.{bare_items, expression_items}
use Rattle.fb_print.specs.Spelled.{item_tokens, tokens_of, Within}
use Rattle.fb_print.proofs.Respelling.{Respells, respells_too}

pub tokens_of-append : (front back : List Item) → tokens_of (front ++ back) ≡ tokens_of front ++ tokens_of back
tokens_of-append front back = flat_map-append item_tokens front back

abbrev pub bare_tokens : Expression → List What
bare_tokens e = tokens_of (bare_items e)

abbrev pub placed_tokens : Level → Expression → List What
placed_tokens wanted e = tokens_of (expression_items wanted e)

abbrev pub closed_tokens : Expression → List What
closed_tokens e = what.Sign sign.OpenParen ∷ bare_tokens e ++ what.Sign sign.CloseParen ∷ []

closed_is : (e : Expression) → tokens_of (parenthesized (bare_items e)) ≡ closed_tokens e
closed_is e = ap (λ l. what.Sign sign.OpenParen ∷ l) (tokens_of-append (bare_items e) (sign sign.CloseParen ∷ []))

-- where anything is read, nothing needs parentheses
pub placed_whole : (e : Expression) → expression_items level.Expr e ≡ bare_items e
placed_whole e = ap (λ b. if b then parenthesized (bare_items e) else bare_items e) (le-ltb (rank (level_of e)) 0 (omega arith))

-- ---- what is read at a level is read at each one before it

abbrev level_at : ℕ → Level
level_at zero = level.Expr
level_at (suc zero) = level.All
level_at (suc (suc zero)) = level.Neg
level_at (suc (suc (suc zero))) = level.Compared
level_at (suc (suc (suc (suc zero)))) = level.Sum
level_at (suc (suc (suc (suc (suc zero))))) = level.Product
level_at (suc (suc (suc (suc (suc (suc zero)))))) = level.Unary
level_at (suc (suc (suc (suc (suc (suc (suc zero))))))) = level.Post
level_at (suc (suc (suc (suc (suc (suc (suc (suc n)))))))) = level.Atom

level_again : (l : Level) → level_at (rank l) ≡ l
level_again level.Expr = refl
level_again level.All = refl
level_again level.Neg = refl
level_again level.Compared = refl
level_again level.Sum = refl
level_again level.Product = refl
level_again level.Unary = refl
level_again level.Post = refl
level_again level.Atom = refl

pub loosest : (l : Level) → rank level.Expr ≤ rank l
loosest l = omega arith

at_most_atom : (l : Level) → rank l ≤ rank level.Atom
at_most_atom level.Expr = omega arith
at_most_atom level.All = omega arith
at_most_atom level.Neg = omega arith
at_most_atom level.Compared = omega arith
at_most_atom level.Sum = omega arith
at_most_atom level.Product = omega arith
at_most_atom level.Unary = omega arith
at_most_atom level.Post = omega arith
at_most_atom level.Atom = omega arith

module _ (deeper : Spellings) (start rest : Input) (e : Expression) where
  one_looser : (n : ℕ) → Within (level_at (suc n)) deeper start rest e → Within (level_at n) deeper start rest e
  one_looser zero this = inl this
  one_looser (suc zero) this = inl this
  one_looser (suc (suc zero)) this = inl this
  one_looser (suc (suc (suc zero))) this = inl this
  one_looser (suc (suc (suc (suc zero)))) this = inl this
  one_looser (suc (suc (suc (suc (suc zero))))) this = inl this
  one_looser (suc (suc (suc (suc (suc (suc zero)))))) this = inl this
  one_looser (suc (suc (suc (suc (suc (suc (suc zero))))))) this = inl this
  one_looser (suc (suc (suc (suc (suc (suc (suc (suc n)))))))) this = this

  below_or_same : (m n : ℕ) → n ≤ suc m → (n ≤ m) ⊎ (n ≡ suc m)
  below_or_same m n le = grind arith

  looser_at : (m n : ℕ) → n ≤ m → Within (level_at m) deeper start rest e → Within (level_at n) deeper start rest e
  looser_at zero n le this = subst (λ k. Within (level_at k) deeper start rest e) (let same : 0 ≡ n = omega arith in same) this
  looser_at (suc m) n le this =
      elim (below_or_same m n le) [
        | inl less ↦ looser_at m n less (one_looser m this)
        | inr same ↦ subst (λ k. Within (level_at k) deeper start rest e) (sym same) this
      ]

  pub looser : (tight wanted : Level) → rank wanted ≤ rank tight → Within tight deeper start rest e → Within wanted deeper start rest e
  looser tight wanted le this =
      subst (λ l. Within l deeper start rest e) (level_again wanted)
      (looser_at (rank tight) (rank wanted) le (subst (λ l. Within l deeper start rest e) (sym (level_again tight)) this))

-- ---- spelled at some level

-- The expression is spelled again at its own level; where that is looser than this level, also in parentheses.
pub record Stands (calls : ℕ → ℕ) (new : Spellings) (wanted : Level) (e : Expression) (from to : Input) : Type 0 where
  pub own : Respells calls (Within (level_of e) new) (bare_tokens e) e from to
  pub closed : rank (level_of e) < rank wanted → Respells calls (grammar.Parenthesized new) (closed_tokens e) e from to

module _ {calls : ℕ → ℕ} where
  pub stands_looser : {new : Spellings} (tight wanted : Level) (e : Expression) (from to : Input) → rank wanted ≤ rank tight → Stands calls new tight e from to → Stands calls new wanted e from to
  stands_looser tight wanted e from to le stands = record { own = stands.own; closed = λ lt. stands.closed (omega arith) }

  -- it is of this level itself
  pub stands_own : {new : Spellings} (wanted : Level) (e : Expression) (from to : Input) → rank wanted ≤ rank (level_of e)
      → Respells calls (Within (level_of e) new) (bare_tokens e) e from to → Stands calls new wanted e from to
  stands_own wanted e from to le own = record { own = own; closed = λ lt. absurd (omega arith) }

  by_parentheses : (new : Spellings) (wanted : Level) (e : Expression) (from to : Input) (b : Bool) → in_parentheses wanted e ≡ b
      → (b ≡ true → Respells calls (Within wanted new) (closed_tokens e) e from to) → (b ≡ false → Respells calls (Within wanted new) (bare_tokens e) e from to)
      → Respells calls (Within wanted new) (tokens_of (if b then parenthesized (bare_items e) else bare_items e)) e from to
  by_parentheses new wanted e from to true is closed open_ = subst (λ tokens. Respells calls (Within wanted new) tokens e from to) (sym (closed_is e)) (closed refl)
  by_parentheses new wanted e from to false is closed open_ = open_ refl

  -- so it can stand where that level or a looser one is read
  pub placed_again : {new : Spellings} (tight wanted : Level) (e : Expression) (from to : Input) → rank wanted ≤ rank tight → Stands calls new tight e from to
      → Respells calls (Within wanted new) (placed_tokens wanted e) e from to
  placed_again {new} tight wanted e from to le stands =
      by_parentheses new wanted e from to (in_parentheses wanted e) refl
      (λ in_. (
      let lt = ltb-true (rank (level_of e)) (rank wanted) in_ in
      respells_too (closed_tokens e) e e from to (λ start rest this. looser new start rest e level.Atom wanted (at_most_atom wanted) (inr (inr (inl this)))) (stands.closed (omega arith))))
      (λ out. (
      let ge = ltb-false (rank (level_of e)) (rank wanted) out in
      respells_too (bare_tokens e) e e from to (λ start rest this. looser new start rest e (level_of e) wanted ge this) stands.own))

  -- and at that level itself
  pub placed_here : {new : Spellings} (wanted : Level) (e : Expression) (from to : Input) → Stands calls new wanted e from to
      → Respells calls (Within wanted new) (placed_tokens wanted e) e from to
  placed_here wanted e from to stands = placed_again wanted wanted e from to (omega arith) stands
