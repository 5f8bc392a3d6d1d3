-- What the trees say once a table has changed.
use Rattle.std.proofs.Common.{◌≡◌, ℕ, Bool, true, false, ◌&&◌, List, Some, nat_eq, Vec, Global, refl, sym, ap, ◌∙◌, if◌then◌else◌}
use Rattle.std.specs.Cmp.{IsEquivalence, nat_eq_equiv}
use Rattle.std.specs.Cmp.Lexicographic.{pointwise, lists_equiv}
use Rattle.std.specs.Map.{IsKeyTest}
use Rattle.fb_base.specs.declared.method.MethodId.{MethodId}
use Rattle.fb_base.specs.declared.value.Value.{Value}
use Rattle.fb_base.specs.declared.reply.Reply.{Reply}
use Rattle.fb_base.specs.declared.reply.Reply.TheVariants as reply
use Rattle.fb_base.specs.Values.{same_value}
use Rattle.fb_base.specs.SameLaws.{same_value_equiv}
use Rattle.fb_base.specs.Replies.{same_reply}
use Rattle.fb_store.specs.declared.place.Place.{Place}
use Rattle.fb_store.specs.declared.trees.Trees.{Trees}
use Rattle.fb_store.specs.Tables.{found_in}
use Rattle.fb_store.specs.Trees.{root_in, branch_in, same_method, same_place, AreAlike, AddsRoot, AddsBranch}

-- a look-up by a list finds the keys with that list
pub list_test : {T : Type 0} {eq : T → T → Bool} (laws : IsEquivalence eq) (items : List T)
    → IsKeyTest {K = Vec T Global} (λ x y. pointwise eq x.items y.items) (λ key. pointwise eq items key.items)
list_test laws items x y passes = (lists_equiv laws).congr items x.items y.items passes

pub value_test : (value : Value) → IsKeyTest same_value (same_value value)
value_test value x y passes = same_value_equiv.congr value x y passes

abbrev Key : Type 0
Key = Vec Value Global

abbrev CodeKey : Type 0
CodeKey = Vec ℕ Global

and_false : (b : Bool) → (b && false) ≡ false
and_false true = refl
and_false false = refl

-- a choice by a test that fails
if_apart : {A : Type 0} (b : Bool) (x y : A) → (if b && false then x else y) ≡ y
if_apart b x y = ap (λ t. if t then x else y) (and_false b)

module _ (old new : Trees) (values : new.values ≡ old.values) (errors : new.errors ≡ old.errors) where
  branches_kept : (p : Place) (r : Reply) → branch_in new p r ≡ branch_in old p r
  unfolding branch_in
  branches_kept p (reply.Ok value) = ap (found_in (same_place p) (same_value value)) values
  branches_kept p (reply.Err code) = ap (found_in (same_place p) (λ key. pointwise nat_eq code key.items)) errors

  pub alike_by_roots : ((m : MethodId) (c : Key → Bool) → IsKeyTest (λ x y. pointwise same_value x.items y.items) c
      → found_in (same_method m) c new.roots ≡ found_in (same_method m) c old.roots)
      → AreAlike old new
  unfolding root_in
  alike_by_roots kept =
      record {
        roots = λ m a. kept m (λ key. pointwise same_value a key.items) (list_test same_value_equiv a);
        branches = branches_kept;
      }

  pub adds_by_roots : (method : MethodId) (args : List Value) (id : ℕ) (k : Key) → k.items ≡ args
      → ((m : MethodId) (c : Key → Bool) → IsKeyTest (λ x y. pointwise same_value x.items y.items) c
      → found_in (same_method m) c new.roots ≡ (if same_method method m && c k then Some id else found_in (same_method m) c old.roots))
      → AddsRoot old new method args id
  unfolding root_in
  adds_by_roots method args id k key_is added =
      record {
        roots = λ m a.
            added m (λ key. pointwise same_value a key.items) (list_test same_value_equiv a)
            ∙ ap (λ items. if same_method method m && pointwise same_value a items then Some id else root_in old m a) key_is;
        branches = branches_kept;
      }

module _ (old new : Trees) (roots : new.roots ≡ old.roots) where
  roots_kept : (m : MethodId) (a : List Value) → root_in new m a ≡ root_in old m a
  unfolding root_in
  roots_kept m a = ap (found_in (same_method m) (λ key. pointwise same_value a key.items)) roots

  module _ (errors : new.errors ≡ old.errors) where
    pub alike_by_values : ((p : Place) (c : Value → Bool) → IsKeyTest same_value c → found_in (same_place p) c new.values ≡ found_in (same_place p) c old.values)
        → AreAlike old new
    unfolding branch_in
    alike_by_values kept = record { roots = roots_kept; branches = by }
      where
        by : (p : Place) (r : Reply) → branch_in new p r ≡ branch_in old p r
        by p (reply.Ok value) = kept p (same_value value) (value_test value)
        by p (reply.Err code) = ap (found_in (same_place p) (λ key. pointwise nat_eq code key.items)) errors

    pub adds_by_values : (place : Place) (value : Value) (id : ℕ) (k : Value) → k ≡ value
        → ((p : Place) (c : Value → Bool) → IsKeyTest same_value c
        → found_in (same_place p) c new.values ≡ (if same_place place p && c k then Some id else found_in (same_place p) c old.values))
        → AddsBranch old new place (reply.Ok value) id
    unfolding branch_in
    adds_by_values place value id k key_is added = record { roots = roots_kept; branches = by }
      where
        by : (p : Place) (r : Reply) → branch_in new p r ≡ (if same_place place p && same_reply r (reply.Ok value) then Some id else branch_in old p r)
        by p (reply.Ok other) =
            added p (same_value other) (value_test other)
            ∙ ap (λ v. if same_place place p && same_value other v then Some id else branch_in old p (reply.Ok other)) key_is
        by p (reply.Err code) =
            ap (found_in (same_place p) (λ key. pointwise nat_eq code key.items)) errors
            ∙ sym (if_apart (same_place place p) (Some id) (branch_in old p (reply.Err code)))

  module _ (values : new.values ≡ old.values) where
    pub alike_by_errors : ((p : Place) (c : CodeKey → Bool) → IsKeyTest (λ x y. pointwise nat_eq x.items y.items) c
        → found_in (same_place p) c new.errors ≡ found_in (same_place p) c old.errors)
        → AreAlike old new
    unfolding branch_in
    alike_by_errors kept = record { roots = roots_kept; branches = by }
      where
        by : (p : Place) (r : Reply) → branch_in new p r ≡ branch_in old p r
        by p (reply.Ok value) = ap (found_in (same_place p) (same_value value)) values
        by p (reply.Err code) = kept p (λ key. pointwise nat_eq code key.items) (list_test nat_eq_equiv code)

    pub adds_by_errors : (place : Place) (code : List ℕ) (id : ℕ) (k : CodeKey) → k.items ≡ code
        → ((p : Place) (c : CodeKey → Bool) → IsKeyTest (λ x y. pointwise nat_eq x.items y.items) c
        → found_in (same_place p) c new.errors ≡ (if same_place place p && c k then Some id else found_in (same_place p) c old.errors))
        → AddsBranch old new place (reply.Err code) id
    unfolding branch_in
    adds_by_errors place code id k key_is added = record { roots = roots_kept; branches = by }
      where
        by : (p : Place) (r : Reply) → branch_in new p r ≡ (if same_place place p && same_reply r (reply.Err code) then Some id else branch_in old p r)
        by p (reply.Ok value) =
            ap (found_in (same_place p) (same_value value)) values
            ∙ sym (if_apart (same_place place p) (Some id) (branch_in old p (reply.Ok value)))
        by p (reply.Err other) =
            added p (λ key. pointwise nat_eq other key.items) (list_test nat_eq_equiv other)
            ∙ ap (λ items. if same_place place p && pointwise nat_eq other items then Some id else branch_in old p (reply.Err other)) key_is
