use Rattle.std.proofs.Common.{◌≡◌, [], ◌∷◌, ℕ, suc, List, length, drop, Some, refl, sym, ap, ◌∙◌, subst, arith, rules}
use Rattle.std.proofs.lemmas.List.{drop_all}
use Rattle.std.proofs.lemmas.Result.{on_ok_weaker}
use Rattle.serde.specs.Event.{Logs, seq_begins}
use Rattle.serde_json.specs.Data.{Data}
use Rattle.serde_json.specs.Events.{items_len, SendsItems}
use Rattle.fb_report.specs.Trees.{trees_of}
use Rattle.fb_report.proofs.shaped.send_items.Goals as goal

as-many : {A : Type 0} (tree : A → Data) (xs : List A) → items_len (trees_of tree xs) ≡ length xs
as-many tree [] = refl
as-many tree (x ∷ xs) = ap suc (as-many tree xs)

pub returns : goal.returns
returns g c =
    let xs = c.args.items.now in
    let tree = g.T.Shaped.tree in
    let first = g.S.Serializer.written c.begin_seq.new.self in
    let end = g.S.Serializer.written c.end_seq.new.self in
    let begun = subst (λ n. Logs (g.S.Serializer.written c.args.out.now) first (seq_begins (Some n))) (sym (as-many tree xs)) c.in_ok-begin_seq.ensures in
    let none : drop c.loop-item.item-index xs ≡ [] = drop_all c.loop-item.item-index xs (omega arith) in
    on_ok_weaker c.end_seq.result (λ e. (
      first,
      begun,
      c.loop-item.invariant end (subst (λ ys. SendsItems (trees_of tree ys) (g.S.Serializer.written c.loop-item.out) end) (sym none) e),
    )) c.end_seq.ensures
