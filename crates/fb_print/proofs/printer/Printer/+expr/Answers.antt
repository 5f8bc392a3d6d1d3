use Rattle.std.proofs.Common.{[], ◌∷◌, ◌++◌, ◌∙◌, ap, sym, map, codes}
use Rattle.std.specs.List.{flat_map, join_by}
use Rattle.fb_syntax.specs.Trees.{ListLiteral}
use Rattle.fb_syntax.specs.Views.{view_expr, view_link, expressions_of, links_of}
use Rattle.fb_syntax.specs.declared.levels.Level.TheVariants as level
use Rattle.fb_syntax.specs.declared.sign.Sign.TheVariants.{Comma}
use Rattle.fb_print.specs.Items.{Blank, sign, items_text}
use Rattle.fb_syntax.specs.Levels.{chain_level, link_level}
use Rattle.fb_print.specs.Expressions.{kind_items, bare_items}
use Rattle.fb_print.proofs.Steps.{one_piece, two_pieces, three_pieces}
use Rattle.fb_syntax.specs.ViewEquations.{view_list}
use Rattle.fb_print.specs.Printed.{expr_text, link_text, listed_text}
use Rattle.fb_print.proofs.ExpressionTexts.{exprs_text, linked, list_text, chain_text, all_text, any_text}
use Rattle.fb_print.proofs.printer.Printer.+expr.Goals as goal

pub bare-returns-in-All : goal.bare-returns-in-All
bare-returns-in-All t c =
    let text = ap (λ e. items_text (bare_items (view_expr e))) c.in-All.is ∙ all_text c.in-All.operands in
    let written = ap (join_by (expr_text level.Neg) (codes " and ")) c.deref-in-All.ensures.value in
    one_piece _ _ _ _ _ (written ∙ sym text) c.exprs.ensures

pub bare-returns-in-Any : goal.bare-returns-in-Any
bare-returns-in-Any t c =
    let text = ap (λ e. items_text (bare_items (view_expr e))) c.in-Any.is ∙ any_text c.in-Any.operands in
    let written = ap (join_by (expr_text level.All) (codes " or ")) c.deref-in-Any.ensures.value in
    one_piece _ _ _ _ _ (written ∙ sym text) c.exprs-in-Any.ensures

pub bare-returns-in-Injected : goal.bare-returns-in-Injected
unfolding bare_items view_expr
bare-returns-in-Injected t c =
    one_piece _ _ _ _ _ (sym (ap (λ e. items_text (bare_items (view_expr e))) c.in-Injected.is)) c.put-in-Injected.ensures

pub bare-returns-in_ok-expr-in-Chain : goal.bare-returns-in_ok-expr-in-Chain
bare-returns-in_ok-expr-in-Chain t c =
    let text = ap (λ e. items_text (bare_items (view_expr e))) c.in-Chain.is ∙ chain_text c.in-Chain.first c.in-Chain.rest in
    let first = c.in-Chain.first.value in
    let rest = c.deref-in-Chain-3.result.now in
    let wanted = c.operands-wanted.result in
    let level = c.operands-wanted.ensures ∙ ap link_level (c.of_chain.ensures ∙ ap (λ links. chain_level (links_of (map view_link links))) c.deref-in-Chain.ensures.value) in
    let written = ap (λ level. linked level first rest) level ∙ ap (linked (link_level (chain_level (links_of (map view_link c.in-Chain.rest.items)))) first) c.deref-in-Chain-3.ensures.value in
    let first_put = c.in_ok-expr-in-Chain.ensures ∙ ap (λ e. c.args.self.now ++ expr_text wanted e) c.deref-in-Chain-2.ensures in
    two_pieces c.links.result c.args.self.now c.expr-in-Chain.new.self c.links.new.self (expr_text wanted first) (flat_map (link_text wanted) rest) _
    (written ∙ sym text) first_put c.links.ensures

pub bare-returns-in-List : goal.bare-returns-in-List
bare-returns-in-List t c =
    let text = ap (λ e. items_text (bare_items (view_expr e))) c.in-List.is ∙ ap (λ e. items_text (bare_items e)) (view_list c.in-List.base c.in-List.items) in
    let items = ap (λ items. items_text (bare_items (ListLiteral c.in-List.base (expressions_of (map view_expr items))))) c.deref.ensures.value in
    one_piece _ _ _ _ _ (items ∙ sym text) c.list.ensures

pub listed-returns : goal.listed-returns
listed-returns t c =
    let text = exprs_text level.Expr (sign Comma ∷ Blank ∷ []) c.args.exprs.now in
    three_pieces c.put-2.result c.args.self.now c.put.new.self c.exprs.new.self c.put-2.new.self
    c.args.opening.now (join_by (expr_text level.Expr) (codes ", ") c.args.exprs.now) c.args.closing.now _
    (ap (λ l. c.args.opening.now ++ (l ++ c.args.closing.now)) (sym text))
    c.in_ok-put.ensures c.in_ok-exprs.ensures c.put-2.ensures

pub list-returns : goal.list-returns
list-returns t c =
    let kind = items_text (kind_items c.args.base) in
    let items = codes ">[" ++ (listed_text c.args.items.now ++ codes "]") in
    three_pieces c.listed.result c.args.self.now c.put.new.self c.put-2.new.self c.listed.new.self
    (codes "list<") kind items _ (list_text c.args.base c.args.items.now)
    c.in_ok-put.ensures (c.in_ok-put-2.ensures ∙ ap (λ l. c.put.new.self ++ l) c.kind_text.ensures) c.listed.ensures
