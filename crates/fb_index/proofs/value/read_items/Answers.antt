use Rattle.std.proofs.Common.{sym, subst, ◌∙◌}
use Rattle.std.proofs.lemmas.List.Elements.{All-push}
use Rattle.fb_index.specs.Refusal.{IsTextOf}
use Rattle.fb_index.specs.Spelling.{IsItem, value_spelling}
use Rattle.fb_index.proofs.Bools.{some-length}
use Rattle.fb_index.proofs.Cuts.{cut-last, cut-next, cut-shorter}
use Rattle.fb_index.proofs.ReadValues.{no-values}
use Rattle.fb_index.proofs.value.read_items.Goals as goal

pub returns-in_default : goal.returns-in_default
returns-in_default c =
    let none = rw c.in_default.is at c.in_ok-value.ensures in
    no-values c.args.bytes.now c.loop-values.left.now c.loop-values.values (some-length c.args.bytes.now _ c.is_empty.ensures c.if-is_empty.false)
    c.loop-values.invariant.0 c.loop-values.invariant.1
    (subst (λ bytes. ¬ (IsTextOf IsItem value_spelling bytes)) c.cut.ensures.piece none)

pub returns-in_default-behind : goal.returns-in_default-behind
returns-in_default-behind c =
    let ends = sym (rw c.in_default-behind.is at c.cut.ensures.behind) in
    let item = rw c.in-Some.is at c.in_ok-value.ensures in
    rw c.in_ok-push.ensures.ok (
      All-push IsItem c.loop-values.values c.in-Some.value c.loop-values.invariant.1 item.0,
      cut-last 59 value_spelling c.args.bytes.now c.loop-values.left.now c.loop-values.values c.in-Some.value c.loop-values.invariant.0
          (sym c.cut.ensures.piece ∙ item.1) ends,
    )

pub loop-values-smaller : goal.loop-values-smaller
loop-values-smaller c =
    cut-shorter 59 c.loop-values.left.now c.in-Some-behind.rest.now (sym (rw c.in-Some-behind.is at c.cut.ensures.behind))

pub loop-values-preserved : goal.loop-values-preserved
loop-values-preserved c =
    let goes = sym (rw c.in-Some-behind.is at c.cut.ensures.behind) in
    let item = rw c.in-Some.is at c.in_ok-value.ensures in
    rw c.in_ok-push.ensures.ok (
      cut-next 59 value_spelling c.args.bytes.now c.loop-values.left.now c.in-Some-behind.rest.now c.loop-values.values c.in-Some.value
          c.loop-values.invariant.0 (sym c.cut.ensures.piece ∙ item.1) goes,
      All-push IsItem c.loop-values.values c.in-Some.value c.loop-values.invariant.1 item.0,
    )
