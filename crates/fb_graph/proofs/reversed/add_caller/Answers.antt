use Rattle.std.proofs.Common.{◌≡◌, ◌<◌, ◌∙◌, ℕ, List, [], ◌∷◌, ◌++◌, length, get_or, ap, refl, arith}
use Rattle.std.proofs.Math.ListN.{set}
use Rattle.std.proofs.lemmas.List.{get_or_read}
use Rattle.fb_graph.specs.Graph.{Graph, callees}
use Rattle.fb_graph.proofs.Reversals.{with_callee, AddsCaller-more, AddsCaller-more_past}
use Rattle.fb_graph.proofs.reversed.add_caller.Goals as goal
use Rattle.fb_graph.proofs.reversed.add_caller.Goals.{then-callee-len+in_ok-push, else-callee-len}

pub loop-callee-preserved : goal.loop-callee-preserved
loop-callee-preserved c =
    let caller = c.args.caller in
    let before : Graph = c.args.callers.now.items in
    let now : Graph = c.loop-callee.callers.items in
    let i = c.loop-callee.callee-index in
    let n : ℕ = get_or c.args.callees.now i 0 in
    elim c.if-callee-len.branch [
      | then-callee-len+in_ok-push w ↦
          let within : n < length now = omega arith in
          let old : w.index_mut.result.now ≡ callees now n = get_or_read now n w.index_mut.result.now within w.index_mut.ensures.value [] in
          let pushed : w.push.new.self ≡ callees now n ++ caller ∷ [] =
          w.in_ok-push.ensures.ok ∙ ap (λ (xs : List ℕ). xs ++ caller ∷ []) old in
          let is : c.if-callee-len.callers.items ≡ with_callee now n caller =
          ap (λ v. v.items) w.callers-is ∙ ap (λ (xs : List ℕ). set now n xs) pushed in
          rw is (AddsCaller-more c.args.callees.now caller i n before now (omega arith) refl c.loop-callee.invariant within)
      | else-callee-len w ↦
          rw w.callers-is
          (AddsCaller-more_past c.args.callees.now caller i n before now (omega arith) refl c.loop-callee.invariant (omega arith))
    ]
