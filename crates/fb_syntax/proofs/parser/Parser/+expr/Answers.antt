use Rattle.std.proofs.Common.{◌≡◌, suc, ◌-◌, [], ◌∷◌, ◌++◌, map, sym, ap, ◌∙◌, arith}
use Rattle.std.proofs.lemmas.Result.{err_from_is_err_and}
use Rattle.fb_syntax.specs.Input.{comes}
use Rattle.fb_syntax.specs.TokenKinds.{is_word, comma, series_operator, junction_word}
use Rattle.fb_syntax.specs.Reading.{◌>>=◌, give, step, refuse, with_front, repeated, further}
use Rattle.fb_syntax.specs.Views.{view_expr, view_link, view_items, view_rest}
use Rattle.fb_syntax.specs.ExpressionReading.{links, all_others, levels_at, deeper_at, series_operand, junction_operand}
use Rattle.fb_syntax.proofs.Turns.{joined_alone, joined_more, joined_refused, links_turn, repeated_turn, repeated_refused, repeated_end, comes_more, turn_shorter, map_push, passed}
use Rattle.fb_syntax.proofs.ExpressionSound.{operand_sound}
use Rattle.fb_syntax.proofs.parser.Parser.+expr.Goals as goal

pub further-items-preserved : goal.further-items-preserved
further-items-preserved t c =
    let inner = levels_at c.args.depth in
    let pushed = map_push view_expr c.items.items.items c.push.new.self.items c.in_ok-item.item c.in_ok-push.ensures.items in
    let more : c.items.room ≡ suc (c.items.room - 1) = omega arith in
    ap (λ front. with_front front (further (c.items.room - 1) inner.beyond inner.expr) c.expr.new.self) pushed
    ∙ repeated_turn (view_items c.items.items) (step >>= λ _. refuse inner.beyond) c.items.room (c.items.room - 1) comma (step >>= λ _. inner.expr) (view_expr c.in_ok-item.item) c.items.self c.expr.new.self
    more (sym c.comes_sign.ensures ∙ c.items-test.true) (ap inner.expr (sym c.step.ensures) ∙ c.in_ok-item.ensures)
    ∙ c.items.invariant

pub links-operands-preserved : goal.links-operands-preserved
links-operands-preserved t c =
    let operator = series_operator c.args.series in
    let operand = series_operand (deeper_at c.args.depth) c.args.series in
    let pushed = map_push view_link c.operands.links.items c.push.new.self.items _ c.in_ok-push.ensures.items in
    let more : c.operands.room ≡ suc (c.operands.room - 1) = omega arith in
    ap (λ front. with_front front (links (c.operands.room - 1) operator operand) c.series_operand.new.self) pushed
    ∙ links_turn (view_rest c.operands.links) c.operands.room (c.operands.room - 1) operator operand c.in-Some.op (view_expr c.in_ok-right.right) c.operands.self c.step.new.self c.series_operand.new.self
    more (sym c.operator.ensures ∙ c.in-Some.is) c.step.ensures c.in_ok-right.ensures
    ∙ c.operands.invariant

pub others-returns-in_err-operand : goal.others-returns-in_err-operand
others-returns-in_err-operand t c =
    let operand = junction_operand (deeper_at c.args.depth) c.args.junction in
    let came : comes (is_word (junction_word c.args.junction)) c.operands.self ≡ _ =
    ap (λ w. comes (is_word w) c.operands.self) (sym c.word.ensures) ∙ sym c.comes_word.ensures ∙ c.operands-test.true in
    let less = comes_more (is_word (junction_word c.args.junction)) c.operands.self c.operands.invariant.0 came c.operands.invariant.1 in
    let p = err_from_is_err_and c.from_residual.result c.from_residual.ensures.1 in
    rw (p.1, p.2) (passed view_expr view_items c.junction_operand.new.self c.junction_operand.new.self c.in_err-operand.field-0.0 (operand c.step.new.self) _ c.in_err-operand.ensures
    (λ why refused. sym c.operands.invariant.2 ∙ repeated_refused (view_items c.operands.operands) (give []) c.operands.invariant.0 less.0 (is_word (junction_word c.args.junction)) (step >>= λ _. operand) why c.operands.self less.1 came (ap operand (sym c.step.ensures) ∙ refused)))

pub others-operands-smaller : goal.others-operands-smaller
others-operands-smaller t c =
    let came : comes (is_word (junction_word c.args.junction)) c.operands.self ≡ _ =
    ap (λ w. comes (is_word w) c.operands.self) (sym c.word.ensures) ∙ sym c.comes_word.ensures ∙ c.operands-test.true in
    let shorter = operand_sound c.args.depth c.args.junction c.step.new.self (view_expr c.in_ok-operand.operand) c.junction_operand.new.self c.in_ok-operand.ensures in
    turn_shorter (is_word (junction_word c.args.junction)) c.operands.self c.step.new.self c.junction_operand.new.self came c.step.ensures shorter

pub others-operands-preserved : goal.others-operands-preserved
others-operands-preserved t c =
    let operand = junction_operand (deeper_at c.args.depth) c.args.junction in
    let joint = is_word (junction_word c.args.junction) in
    let came : comes joint c.operands.self ≡ _ =
    ap (λ w. comes (is_word w) c.operands.self) (sym c.word.ensures) ∙ sym c.comes_word.ensures ∙ c.operands-test.true in
    let less = comes_more joint c.operands.self c.operands.invariant.0 came c.operands.invariant.1 in
    let shorter = operand_sound c.args.depth c.args.junction c.step.new.self (view_expr c.in_ok-operand.operand) c.junction_operand.new.self c.in_ok-operand.ensures in
    let fewer = turn_shorter joint c.operands.self c.step.new.self c.junction_operand.new.self came c.step.ensures shorter in
    let pushed = map_push view_expr c.operands.operands.items c.push.new.self.items c.in_ok-operand.operand c.in_ok-push.ensures.items in (
      less.0,
      omega (arith, fewer, less.1, c.operands.invariant.1),
      ap (λ front. with_front front (repeated (give []) less.0 joint (step >>= λ _. operand)) c.junction_operand.new.self) pushed
          ∙ repeated_turn (view_items c.operands.operands) (give []) c.operands.invariant.0 less.0 joint (step >>= λ _. operand) (view_expr c.in_ok-operand.operand) c.operands.self c.junction_operand.new.self
          less.1 came (ap operand (sym c.step.ensures) ∙ c.in_ok-operand.ensures)
          ∙ c.operands.invariant.2,
    )

pub others-returns : goal.others-returns
others-returns t c =
    let none : comes (is_word (junction_word c.args.junction)) c.operands.self ≡ _ =
    ap (λ w. comes (is_word w) c.operands.self) (sym c.word.ensures) ∙ sym c.comes_word.ensures ∙ c.operands-test.false in
    sym c.operands.invariant.2
    ∙ repeated_end (view_items c.operands.operands) (give []) c.operands.invariant.0 (is_word (junction_word c.args.junction)) (step >>= λ _. junction_operand (deeper_at c.args.depth) c.args.junction) c.operands.self none

pub joined-returns-then-not-comes_word : goal.joined-returns-then-not-comes_word
joined-returns-then-not-comes_word t c =
    let none : comes (is_word (junction_word c.args.junction)) c.junction_operand.new.self ≡ _ =
    ap (λ w. comes (is_word w) c.junction_operand.new.self) (sym c.word.ensures) ∙ sym c.comes_word.ensures ∙ c.if-not-comes_word.true in
    joined_alone c.args.junction (junction_operand (deeper_at c.args.depth) c.args.junction) c.args.self.now c.junction_operand.new.self (view_expr c.in_ok-first.first) c.in_ok-first.ensures none

pub joined-returns-in_err-operands : goal.joined-returns-in_err-operands
joined-returns-in_err-operands t c =
    let operand = junction_operand (deeper_at c.args.depth) c.args.junction in
    let joint = is_word (junction_word c.args.junction) in
    let came : comes joint c.junction_operand.new.self ≡ _ =
    ap (λ w. comes (is_word w) c.junction_operand.new.self) (sym c.word.ensures) ∙ sym c.comes_word.ensures ∙ c.if-not-comes_word.false in
    let first = view_expr c.in_ok-first.first in
    let held = ap (λ items. with_front (map view_expr items) (all_others joint operand) c.junction_operand.new.self) (c.in_ok-push.ensures.items ∙ ap (λ none. none ++ c.in_ok-first.first ∷ []) c.new-operands.ensures.items) in
    let p = err_from_is_err_and c.from_residual-in_err-operands.result c.from_residual-in_err-operands.ensures.1 in
    rw (p.1, p.2) (passed view_items view_expr c.others.new.self c.others.new.self c.in_err-operands.field-0.0 _ _ c.in_err-operands.ensures
    (λ why refused. joined_refused c.args.junction operand c.args.self.now c.junction_operand.new.self first why c.in_ok-first.ensures came (sym held ∙ refused)))

pub joined-returns : goal.joined-returns
joined-returns t c =
    let operand = junction_operand (deeper_at c.args.depth) c.args.junction in
    let joint = is_word (junction_word c.args.junction) in
    let came : comes joint c.junction_operand.new.self ≡ _ =
    ap (λ w. comes (is_word w) c.junction_operand.new.self) (sym c.word.ensures) ∙ sym c.comes_word.ensures ∙ c.if-not-comes_word.false in
    let first = view_expr c.in_ok-first.first in
    let held = ap (λ items. with_front (map view_expr items) (all_others joint operand) c.junction_operand.new.self) (c.in_ok-push.ensures.items ∙ ap (λ none. none ++ c.in_ok-first.first ∷ []) c.new-operands.ensures.items) in
    rw c.joined.ensures (joined_more c.args.junction operand c.args.self.now c.junction_operand.new.self c.others.new.self first (view_items c.in_ok-operands.operands) c.in_ok-first.ensures came (sym held ∙ c.in_ok-operands.ensures))
