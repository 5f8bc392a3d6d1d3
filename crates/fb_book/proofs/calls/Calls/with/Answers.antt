use Rattle.std.proofs.Common.{◌≡◌, ◌+◌, true, cond, Some, is_some, length, sym, ap, ◌∙◌, arith}
use Rattle.std.specs.BTreeMap.{get}
use Rattle.fb_index.specs.Index.{index_cmp}
use Rattle.fb_book.specs.Calls.{is_at, place_of}
use Rattle.fb_book.specs.Keys.{is_same_key, same_key_equiv}
use Rattle.fb_book.proofs.Places.{none_from, places-known, places-new}
use Rattle.fb_book.proofs.calls.Calls.with.Goals as goal
use Rattle.fb_book.proofs.calls.Calls.with.Goals.{then-not-known+in_ok-insert, else-not-known}
use Rattle.std.specs.List.{position_from}

pub invariant_of-result : goal.invariant_of-result
invariant_of-result c =
    let call = c.args.call in
    let calls = c.self-2.inside.list.items in
    let before = get index_cmp c.self-2.inside.places in
    let at = c.self-2.invariant call.index ∙ ap (place_of call.index) c.self-2.view_is ∙ sym c.in_ok-place_of.ensures in
    let laws = same_key_equiv in
    let alike : (k : _) → is_at k call ≡ true → before k ≡ before call.index =
    λ k is. c.self-2.invariant k ∙ (λ j. position_from (λ x. laws.congr k call.index x.index is j) 0 calls) ∙ sym (c.self-2.invariant call.index) in
    rw c.in_ok-push.ensures.items (elim c.if-not-known.branch [
      | then-not-known+in_ok-insert w ↦ (
          let counted : c.len-place.result ≡ 0 + length calls = omega (arith, c.len-place.ensures, c.self-2.inside.list.ok.0) in
          let none = none_from c.in_ok-place_of.field-0 w.if-not-known.ensures in
          rw w.places-is (places-new is_at 0 before (get index_cmp w.insert.new.self) calls call call.index c.self-2.invariant (at ∙ none) alike
          (λ k. w.in_ok-insert.ensures.updates.0 k ∙ (λ j. cond (is_same_key (c.in_ok-copy.ensures j) k) (Some (counted j)) (before k))
          ∙ ap (λ b. cond b (Some (0 + length calls)) (before k)) (laws.symm call.index k))))
      | else-not-known w ↦ rw w.places-is (places-known is_at 0 before calls call call.index c.self-2.invariant (ap is_some at ∙ sym w.if-not-known.ensures) alike)
    ])
