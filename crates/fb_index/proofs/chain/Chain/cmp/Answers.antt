use Rattle.std.proofs.Common.{◌≡◌, List, [], ◌∷◌, ◌++◌, length, arith, length-take, length-append}
use Rattle.std.specs.declared.cmp.Ordering.{Ordering}
use Rattle.std.specs.Ordering.{ordering_then}
use Rattle.std.specs.Cmp.Lexicographic.{slice_cmp}
use Rattle.fb_index.proofs.Orders.{slice_cmp-push, slice_cmp-fronts}
use Rattle.fb_index.proofs.chain.Chain.cmp.Goals as goal

pub loop-before-init : goal.loop-before-init
loop-before-init g c =
    let left = c.args.self.now in
    let right = c.args.other.now in
    (grind (arith, length-take), cc (slice_cmp-fronts g.T.Ord.cmp left right))

turn : {A : Type 0} (R : A → A → Ordering) (left right front other : List A) (x y : A) (all order last next : Ordering) →
    left ≡ front ++ x ∷ [] → right ≡ other ++ y ∷ [] → length left ≡ length right →
    all ≡ ordering_then (slice_cmp R left right) order → last ≡ R x y → next ≡ ordering_then last order →
    (length front ≡ length other) × (all ≡ ordering_then (slice_cmp R front other) next)
turn R left right front other x y all order last next is_left is_right as_long so_far is_last is_next =
    let same : length front ≡ length other = grind (arith, length-append) in
    (same, cc (slice_cmp-push R front other x y order same))

pub loop-before-preserved : goal.loop-before-preserved
loop-before-preserved g c =
    turn g.T.Ord.cmp _ _ _ _ _ _ _ _ _ _ c.in-Some.ensures c.in-Some-split_last.ensures c.loop-before.invariant.0
    c.loop-before.invariant.1 c.cmp.ensures c.then-order.ensures
