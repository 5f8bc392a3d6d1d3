use Rattle.std.proofs.Common.{◌-◌, List, ◌∷◌, take, drop, length, length-drop, refl, arith}
use Rattle.std.proofs.lemmas.Bool.{false≢true}
use Rattle.std.proofs.lemmas.List.{take_all}
use Rattle.fb_base.specs.Front.{IsFrontOf}
use Rattle.fb_index.specs.declared.fault.Fault.{Fault}
use Rattle.fb_replay.specs.Replays.{IsFirstUnmet}
use Rattle.fb_replay.proofs.FirstUnmet.{front_at_end, front_behind, one_before, unmet_at_end, unmet_behind, unmet_here}
use Rattle.fb_replay.proofs.unmet.first_unmet.Goals as goal

pub returns-in_default-others : goal.returns-in_default-others
returns-in_default-others c =
    c.loop-left.invariant.unmet c.fault-item.result.now.index
    (unmet_at_end (λ f. f.now) c.loop-left.left.now c.loop-left.others.now c.fault-item.result c.in-len1-up.len_at_least c.fault-item.is c.in_default-others.len_below)

pub returns-then-not-same : goal.returns-then-not-same
returns-then-not-same c =
    c.loop-left.invariant.unmet c.fault-item.result.now.index
    (unmet_here (λ f. f.now) c.loop-left.left.now c.loop-left.others.now c.fault-item.result c.other-item.result c.in-len1-up.len_at_least c.fault-item.is
    c.in-len1-up-others.len_at_least c.other-item.is (λ same. false≢true (c.if-not-same.ensures.1 same)))

pub loop-left-preserved : goal.loop-left-preserved
loop-left-preserved c =
    let left = c.loop-left.left.now in
    let others = c.loop-left.others.now in
    let rest = take_all (length left - 1) (drop 1 left) (omega (arith, length-drop 1 left)) in
    let more = take_all (length others - 1) (drop 1 others) (omega (arith, length-drop 1 others)) in
    let before = λ (P : List Fault → List Fault → Type 0) (behind : (fault : Fault) (plan injected : List Fault) → P plan injected → P (fault ∷ plan) (fault ∷ injected)).
    one_before (λ f. f.now) P behind left others (take (length left - 1) (drop 1 left)) (take (length others - 1) (drop 1 others)) c.fault-item.result c.other-item.result
    c.in-len1-up.len_at_least c.fault-item.is rest c.in-len1-up-others.len_at_least c.other-item.is more (c.if-not-same.ensures.0 refl) in
    record {
      unmet = λ index unmet. c.loop-left.invariant.unmet index
          (before (λ plan injected. IsFirstUnmet plan injected index) (λ fault plan injected. unmet_behind fault plan injected index) unmet);
      met = λ front. c.loop-left.invariant.met (before IsFrontOf front_behind front);
    }

pub returns : goal.returns
returns c = c.loop-left.invariant.met (front_at_end (λ f. f.now) c.loop-left.left.now c.loop-left.others.now c.in_default.len_below)
