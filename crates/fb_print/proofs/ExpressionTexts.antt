-- The texts of expressions, by the vectors that the code's trees hold.
use Rattle.std.proofs.Common.{◌≡◌, ℕ, List, [], ◌∷◌, ◌++◌, map, codes, refl, ap, ◌∙◌, append_assoc}
use Rattle.std.specs.List.{flat_map, join_by}
use Rattle.std.proofs.lemmas.Grind.{flat_map-append}
use Rattle.std.specs.declared.vec.Vec.{Vec}
use Rattle.std.specs.declared.boxed.Box.{Box}
use Rattle.std.specs.declared.alloc.Global.{Global}
use Rattle.fb_base.specs.declared.kind.Kind.{Kind}
use Rattle.fb_syntax.specs.declared.expr.Expr.{Expr}
use Rattle.fb_syntax.specs.declared.expr.Expr as expr
use Rattle.fb_syntax.specs.declared.expr.Link.{Link}
use Rattle.fb_syntax.specs.declared.reserved.Reserved.TheVariants as word
use Rattle.fb_syntax.specs.declared.sign.Sign.TheVariants as sign
use Rattle.fb_syntax.specs.Trees.{ListLiteral}
use Rattle.fb_syntax.specs.Views.{view_expr, view_link, expressions_of, links_of}
use Rattle.fb_syntax.specs.declared.levels.Level.{Level}
use Rattle.fb_syntax.specs.declared.levels.Level.TheVariants as level
use Rattle.fb_print.specs.Items.{Item, Blank, keyword, sign, spelling, items_text}
use Rattle.fb_syntax.specs.Levels.{chain_level, link_level}
use Rattle.fb_print.specs.Expressions.{operator_items, kind_items, bare_items, each_placed, links_items, expression_items}
use Rattle.fb_print.specs.Printed.{expr_text, link_text, listed_text}
use Rattle.fb_print.proofs.Flattening.{flat_join}
use Rattle.fb_syntax.specs.ViewEquations.{view_chain, view_all, view_any}

pub items_text-append : (front back : List Item) → items_text (front ++ back) ≡ items_text front ++ items_text back
items_text-append front back = flat_map-append spelling front back

further_exprs : (wanted : Level) (between : List ℕ) (es : List Expr)
    → flat_map (λ thing. between ++ items_text thing) (each_placed wanted (expressions_of (map view_expr es))) ≡ flat_map (λ e. between ++ expr_text wanted e) es
unfolding bare_items each_placed
further_exprs wanted between [] = refl
further_exprs wanted between (e ∷ es) = ap (λ l. (between ++ expr_text wanted e) ++ l) (further_exprs wanted between es)

-- expressions with something between them
pub exprs_text : (wanted : Level) (between : List Item) (es : List Expr)
    → items_text (join_by (λ thing. thing) between (each_placed wanted (expressions_of (map view_expr es)))) ≡ join_by (expr_text wanted) (items_text between) es
unfolding bare_items each_placed
exprs_text wanted between [] = refl
exprs_text wanted between (e ∷ es) =
    flat_join spelling between (each_placed wanted (expressions_of (map view_expr (e ∷ es))))
    ∙ ap (λ l. expr_text wanted e ++ l) (further_exprs wanted (items_text between) es)

-- the further operands of a chain
pub links_text : (wanted : Level) (links : List Link) → items_text (links_items wanted (links_of (map view_link links))) ≡ flat_map (link_text wanted) links
unfolding bare_items links_items
links_text wanted [] = refl
links_text wanted (link ∷ links) =
    items_text-append (operator_items link.op ++ expression_items wanted (view_expr link.right)) (links_items wanted (links_of (map view_link links)))
    ∙ ap (λ l. l ++ items_text (links_items wanted (links_of (map view_link links)))) (items_text-append (operator_items link.op) (expression_items wanted (view_expr link.right)))
    ∙ ap (λ l. (items_text (operator_items link.op) ++ expr_text wanted link.right) ++ l) (links_text wanted links)

-- ---- by what the expression is

pub list_text : (base : Kind) (items : List Expr)
    → codes "list<" ++ (items_text (kind_items base) ++ (codes ">[" ++ (listed_text items ++ codes "]")))
    ≡ items_text (bare_items (ListLiteral base (expressions_of (map view_expr items))))
unfolding bare_items
list_text base items = simp (items_text-append (kind_items base) (sign sign.Greater ∷ []), flat_map-append, append_assoc) refl

-- operands of this level, each behind its operator but for the first
abbrev pub linked : Level → Expr → List Link → List ℕ
linked wanted first rest = expr_text wanted first ++ flat_map (link_text wanted) rest

pub chain_text : (first : Box Expr Global) (rest : Vec Link Global)
    → items_text (bare_items (view_expr (expr.Chain first rest))) ≡ linked (link_level (chain_level (links_of (map view_link rest.items)))) first.value rest.items
unfolding bare_items
chain_text first rest =
    let wanted = link_level (chain_level (links_of (map view_link rest.items))) in
    ap (λ e. items_text (bare_items e)) (view_chain first rest)
    ∙ items_text-append (expression_items wanted (view_expr first.value)) (links_items wanted (links_of (map view_link rest.items)))
    ∙ ap (λ l. expr_text wanted first.value ++ l) (links_text wanted rest.items)

pub all_text : (operands : _) → items_text (bare_items (view_expr (expr.All operands))) ≡ join_by (expr_text level.Neg) (codes " and ") operands.items
unfolding bare_items
all_text operands =
    ap (λ e. items_text (bare_items e)) (view_all operands) ∙ exprs_text level.Neg (Blank ∷ keyword word.And ∷ Blank ∷ []) operands.items

pub any_text : (operands : _) → items_text (bare_items (view_expr (expr.Any operands))) ≡ join_by (expr_text level.All) (codes " or ") operands.items
unfolding bare_items
any_text operands =
    ap (λ e. items_text (bare_items e)) (view_any operands) ∙ exprs_text level.All (Blank ∷ keyword word.Or ∷ Blank ∷ []) operands.items
