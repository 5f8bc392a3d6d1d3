-- The tokens of a canonical expression stand apart.
use Rattle.std.proofs.Common.{Bool, true, false, List, [], ◌∷◌, ◌++◌, Some, None, refl, if◌then◌else◌}
use Rattle.std.specs.List.{flat_map, join_by}
use Rattle.fb_base.specs.declared.kind.Kind.{Kind}
use Rattle.fb_base.specs.declared.kind.Kind.TheVariants as kind
use Rattle.fb_base.specs.declared.operator.Op2.{Op2}
use Rattle.fb_base.specs.declared.operator.Op2.TheVariants as op
use Rattle.fb_syntax.specs.declared.reserved.Reserved.{Reserved}
use Rattle.fb_syntax.specs.declared.reserved.Reserved.TheVariants as word
use Rattle.fb_syntax.specs.declared.sign.Sign.TheVariants as sign
use Rattle.fb_syntax.specs.Trees.{Expression, IntLiteral, TextLiteral, BoolLiteral, Variable, ListLiteral, Length, ItemAt, Negative, Not, Comparison, Chain, Conjunction, Disjunction, Injected, InjectedOn, Expressions, NoExpressions, AndExpressions, Links, NoLinks, AndLinks}
use Rattle.fb_syntax.specs.declared.levels.Level.{Level}
use Rattle.fb_syntax.specs.declared.levels.Level.TheVariants as level
use Rattle.fb_print.specs.Items.{Item, Blank, keyword, sign, comma_separated}
use Rattle.fb_syntax.specs.Levels.{in_parentheses, chain_level, link_level}
use Rattle.fb_print.specs.Levels.{parenthesized, placed}
use Rattle.fb_print.specs.Expressions.{operator_items, list_kind_items, kind_items, bracketed, joined, bare_items, each_placed, links_items, expression_items}
use Rattle.fb_print.proofs.Respelling.{Each}
use Rattle.fb_print.proofs.Apart.{Class, Layout, Free, Dash, Right, Solid, End, Runs, runs_both, runs_wider, allows_same, layout_allows, free_as_dash, right_as_solid, ends}

-- behind a `-` the items may stand, and behind them what may follow any end
abbrev pub Stand : List Item → Type 0
Stand items = Runs Dash items End

pub behind_free : (items : List Item) → Stand items → Runs Free items End
behind_free items stand = runs_wider Free Dash End items free_as_dash stand

pub behind_layout : (items : List Item) → Stand items → Runs Layout items End
behind_layout items stand = runs_wider Layout Dash End items (layout_allows Dash) stand

-- between a sign that opens and one that closes, behind anything
pub parenthesized_stand : (before : Class) (items : List Item) → Runs Free items End → Runs before (parenthesized items) End
parenthesized_stand before items runs = (refl, runs_both Free End End items (sign sign.CloseParen ∷ []) runs (refl, ends Free))

bracketed_stand : (before : Class) (items : List Item) → Runs Free items End → Runs before (bracketed items) End
bracketed_stand before items runs = (refl, runs_both Free End End items (sign sign.CloseBracket ∷ []) runs (refl, ends Free))

placed_if : (b : Bool) (items : List Item) → Stand items → Stand (if b then parenthesized items else items)
placed_if true items stand = parenthesized_stand Dash items (behind_free items stand)
placed_if false items stand = stand

placed_stand : (wanted : Level) (e : Expression) (items : List Item) → Stand items → Stand (placed wanted e items)
placed_stand wanted e items stand = placed_if (in_parentheses wanted e) items stand

operator_stands : (o : Op2) → Runs End (operator_items o) Layout
operator_stands op.Add = (refl, (refl, (refl, allows_same Layout)))
operator_stands _ = (refl, (refl, (refl, allows_same Layout)))

-- behind a kind `>` may stand too
pub kind_stands : (k : Kind) → Runs Dash (kind_items k) Solid
kind_stands kind.Int = (refl, allows_same Solid)
kind_stands kind.Bool = (refl, allows_same Solid)
kind_stands kind.Text = (refl, allows_same Solid)
kind_stands _ = (refl, (refl, (refl, (refl, right_as_solid))))

-- things one after the other, with something between them
further_stand : (between : List Item) (things : List (List Item)) → Runs End between Layout → Each Stand things
    → Runs End (flat_map (λ thing. between ++ thing) things) End
further_stand between [] runs none = allows_same End
further_stand between (thing ∷ things) runs (stand, stands) =
    runs_both End End End (between ++ thing) (flat_map (λ other. between ++ other) things)
    (runs_both End Layout End between thing runs (behind_layout thing stand)) (further_stand between things runs stands)

joined_stand : (between : List Item) (things : List (List Item)) → Runs End between Layout → Each Stand things → Stand (join_by (λ thing. thing) between things)
joined_stand between [] runs none = ends Dash
joined_stand between (thing ∷ things) runs (stand, stands) =
    runs_both Dash End End thing (flat_map (λ other. between ++ other) things) stand (further_stand between things runs stands)

pub commas_stand : (things : List (List Item)) → Each Stand things → Stand (comma_separated things)
commas_stand things stands = joined_stand (sign sign.Comma ∷ Blank ∷ []) things (refl, (refl, allows_same Layout)) stands

words_stand : (by : Reserved) (things : List (List Item)) → Each Stand things → Stand (joined by things)
words_stand by things stands = joined_stand (Blank ∷ keyword by ∷ Blank ∷ []) things (refl, (refl, (refl, allows_same Layout))) stands

mutual
  unfolding bare_items each_placed links_items

  bare_stand : (e : Expression) → Stand (bare_items e)
  bare_stand (IntLiteral n) = (refl, ends Solid)
  bare_stand (TextLiteral text) = (refl, ends Solid)
  bare_stand (BoolLiteral b) = (refl, ends Solid)
  bare_stand (Variable x) = (refl, ends Solid)
  bare_stand (ListLiteral base items) =
      let listed = comma_separated (each_placed level.Expr items) in
      let base_runs = runs_wider Free Dash Solid (kind_items base) free_as_dash (kind_stands base) in
      runs_both Dash Right End (list_kind_items (kind_items base)) (bracketed listed)
      (refl, (refl, runs_both Free Solid Right (kind_items base) (sign sign.Greater ∷ []) base_runs (refl, allows_same Right)))
      (bracketed_stand Right listed (behind_free listed (commas_stand (each_placed level.Expr items) (each_stand level.Expr items))))
  bare_stand (Length e) =
      (refl, parenthesized_stand Solid (expression_items level.Expr e) (behind_free (expression_items level.Expr e) (placed_stand level.Expr e (bare_items e) (bare_stand e))))
  bare_stand (ItemAt list place) =
      runs_both Dash End End (expression_items level.Atom list) (bracketed (expression_items level.Expr place))
      (placed_stand level.Atom list (bare_items list) (bare_stand list))
      (bracketed_stand End (expression_items level.Expr place) (behind_free (expression_items level.Expr place) (placed_stand level.Expr place (bare_items place) (bare_stand place))))
  bare_stand (Negative e) = (refl, placed_stand level.Unary e (bare_items e) (bare_stand e))
  bare_stand (Not e) = (refl, (refl, behind_layout (expression_items level.Neg e) (placed_stand level.Neg e (bare_items e) (bare_stand e))))
  bare_stand (Comparison o left right) =
      runs_both Dash Layout End (expression_items level.Sum left ++ operator_items o) (expression_items level.Sum right)
      (runs_both Dash End Layout (expression_items level.Sum left) (operator_items o) (placed_stand level.Sum left (bare_items left) (bare_stand left)) (operator_stands o))
      (behind_layout (expression_items level.Sum right) (placed_stand level.Sum right (bare_items right) (bare_stand right)))
  bare_stand (Chain first links) =
      let operand = link_level (chain_level links) in
      runs_both Dash End End (expression_items operand first) (links_items operand links) (placed_stand operand first (bare_items first) (bare_stand first)) (links_stand operand links)
  bare_stand (Conjunction operands) = words_stand word.And (each_placed level.Neg operands) (each_stand level.Neg operands)
  bare_stand (Disjunction operands) = words_stand word.Or (each_placed level.All operands) (each_stand level.All operands)
  bare_stand Injected = (refl, ends Solid)
  bare_stand (InjectedOn service None) = (refl, (refl, (refl, ends Solid)))
  bare_stand (InjectedOn service (Some method)) = (refl, (refl, (refl, (refl, (refl, ends Solid)))))

  each_stand : (wanted : Level) (es : Expressions) → Each Stand (each_placed wanted es)
  each_stand wanted NoExpressions = tt
  each_stand wanted (AndExpressions e es) = (placed_stand wanted e (bare_items e) (bare_stand e), each_stand wanted es)

  links_stand : (wanted : Level) (links : Links) → Runs End (links_items wanted links) End
  links_stand wanted NoLinks = allows_same End
  links_stand wanted (AndLinks o right links) =
      runs_both End End End (operator_items o ++ expression_items wanted right) (links_items wanted links)
      (runs_both End Layout End (operator_items o) (expression_items wanted right) (operator_stands o) (behind_layout (expression_items wanted right) (placed_stand wanted right (bare_items right) (bare_stand right))))
      (links_stand wanted links)

pub expression_stands : (wanted : Level) (e : Expression) → Stand (expression_items wanted e)
expression_stands wanted e = placed_stand wanted e (bare_items e) (bare_stand e)

pub listed_stand : (es : Expressions) → Stand (comma_separated (each_placed level.Expr es))
listed_stand es = commas_stand (each_placed level.Expr es) (each_stand level.Expr es)
