-- What the tables of the decision trees say.
use Rattle.std.specs.Prelude.{◌≡◌, ℕ, Bool, ◌&&◌, ◌==◌, Option, Some, List, nat_eq, if◌then◌else◌}
use Rattle.std.specs.Cmp.Lexicographic.{pointwise}
use Rattle.fb_base.specs.declared.method.MethodId.{MethodId}
use Rattle.fb_base.specs.declared.value.Value.{Value}
use Rattle.fb_base.specs.declared.reply.Reply.{Reply}
use Rattle.fb_base.specs.declared.reply.Reply.TheVariants as reply
use Rattle.fb_base.specs.Values.{same_value}
use Rattle.fb_base.specs.Replies.{same_reply}
use Rattle.fb_store.specs.declared.place.Place.{Place}
use Rattle.fb_store.specs.declared.trees.Trees.{Trees}
use Rattle.fb_store.specs.Tables.{found_in}

abbrev pub same_method : MethodId → MethodId → Bool
same_method a b = a.0 == b.0

abbrev pub same_place : Place → Place → Bool
same_place a b = a.first == b.first && a.answered == b.answered

-- the record at which the tree of a method on some arguments begins
unfoldable pub root_in : Trees → MethodId → List Value → Option ℕ
root_in trees method args = found_in (same_method method) (λ key. pointwise same_value args key.items) trees.roots

-- the record to which a reply leads from a place, other than the reply of the place's own record
unfoldable pub branch_in : Trees → Place → Reply → Option ℕ
branch_in trees place (reply.Ok value) = found_in (same_place place) (same_value value) trees.values
branch_in trees place (reply.Err code) = found_in (same_place place) (λ key. pointwise nat_eq code key.items) trees.errors

-- each look-up gives the same
pub record AreAlike (old new : Trees) : Type 0 where
  pub roots : (method : MethodId) (args : List Value) → root_in new method args ≡ root_in old method args
  pub branches : (place : Place) (r : Reply) → branch_in new place r ≡ branch_in old place r

-- the tree of a method on some arguments begins at the record, and nothing else has changed
pub record AddsRoot (old new : Trees) (method : MethodId) (args : List Value) (id : ℕ) : Type 0 where
  pub roots : (m : MethodId) (a : List Value)
      → root_in new m a ≡ (if same_method method m && pointwise same_value a args then Some id else root_in old m a)
  pub branches : (place : Place) (r : Reply) → branch_in new place r ≡ branch_in old place r

-- the reply leads from the place to the record, and nothing else has changed
pub record AddsBranch (old new : Trees) (place : Place) (answer : Reply) (id : ℕ) : Type 0 where
  pub roots : (method : MethodId) (args : List Value) → root_in new method args ≡ root_in old method args
  pub branches : (p : Place) (r : Reply)
      → branch_in new p r ≡ (if same_place place p && same_reply r answer then Some id else branch_in old p r)
