use Rattle.std.proofs.Common.{◌≡◌, Bool, false, Option, Some, None, List, [], ◌∷◌, ◌++◌, refl, ap, IsTrue, ◌↔◌}
use Rattle.std.specs.Option.{option_map, option_or}
use Rattle.std.proofs.lemmas.List.Folds.{find-append}
use Rattle.std.proofs.lemmas.Bool.Decides.{same_from_decides}
use Rattle.fb_base.specs.declared.reply.Reply.{Reply}
use Rattle.fb_index.specs.Entry.{Occurrence}
use Rattle.fb_index.specs.Index.{same_index}
use Rattle.fb_index.specs.Plan.{fault_at}
use Rattle.fb_index.specs.declared.fault.Fault.{Fault}
use Rattle.fb_index.proofs.Sameness.{same_index-decides}
use Rattle.fb_index.proofs.plan.Plan.fault_at.Goals as goal

option_map-or : {A B : Type 0} (f : A → B) (x y : Option A) → option_map f (option_or x y) ≡ option_or (option_map f x) (option_map f y)
option_map-or f None y = refl
option_map-or f (Some a) y = refl

option_or_assoc : {A : Type 0} (x y z : Option A) → option_or (option_or x y) z ≡ option_or x (option_or y z)
option_or_assoc None y z = refl
option_or_assoc (Some a) y z = refl

-- the last fault answers only where none before it does
fault_at-push : (all : Option Reply) (plan before : List Fault) (fault : Fault) (index : List Occurrence) (first next : Option Reply) →
    plan ≡ before ++ fault ∷ [] → all ≡ option_or (fault_at plan index) first →
    next ≡ option_or (fault_at (fault ∷ []) index) first → all ≡ option_or (fault_at before index) next
fault_at-push all plan before fault index first next is_plan is_all is_next =
    let test : Fault → Bool = λ f. same_index f.index index in
    let split = ap (option_map (λ (f : Fault). f.reply)) (find-append test before (fault ∷ [])) in
    rw (is_all, is_plan, split, option_map-or, option_or_assoc, is_next) refl

module _ (fault : Fault) (index : List Occurrence) where
  here : fault.index ≡ index → fault_at (fault ∷ []) index ≡ Some fault.reply
  here same = let told = (same_index-decides fault.index index).1 same in rw told refl

  elsewhere : (r : Bool) → r ≡ false → (IsTrue r ↔ (fault.index ≡ index)) → fault_at (fault ∷ []) index ≡ None
  elsewhere r is_false says =
      let told = same_from_decides r (same_index fault.index index) says (same_index-decides fault.index index) in
      rw (← told, is_false) refl

pub loop-before-preserved-then-same : goal.loop-before-preserved-then-same
loop-before-preserved-then-same c =
    fault_at-push _ c.loop-before.left.now c.in-Some.before.now c.in-Some.fault.now c.args.index.now _ _ c.in-Some.ensures
    c.loop-before.invariant (rw (here c.in-Some.fault.now c.args.index.now (c.if-same.ensures.0 refl)) refl)

pub loop-before-preserved : goal.loop-before-preserved
loop-before-preserved c =
    fault_at-push _ c.loop-before.left.now c.in-Some.before.now c.in-Some.fault.now c.args.index.now _ _ c.in-Some.ensures
    c.loop-before.invariant (rw (elsewhere c.in-Some.fault.now c.args.index.now c.same.result c.if-same.false c.same.ensures) refl)
