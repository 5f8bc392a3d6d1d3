-- `same_value` is equality.
use Rattle.std.specs.Prelude.{◌≡◌, Bool}
use Rattle.std.specs.Bool.{Decides}
use Rattle.std.specs.Cmp.{IsEquivalence, decided, signed_Decides, booleans_Decides}
use Rattle.std.proofs.Common.{ap, refl}
use Rattle.std.proofs.lemmas.Slice.Eq.{bytes_eq-Decides, slice_eq-Decides}
use Rattle.fb_base.specs.declared.items.Items.{Items}
use Rattle.fb_base.specs.declared.items.Items.TheVariants as items
use Rattle.fb_base.specs.declared.value.Value.{Value}
use Rattle.fb_base.specs.declared.value.Value.TheVariants as value
use Rattle.fb_base.specs.Values.{same_items, same_value}

-- a test of what a constructor holds is a test of the whole
pub Decides-along : {A B : Type 0} {b : Bool} {x y : A} (f : A → B) → (f x ≡ f y → x ≡ y) → Decides b (x ≡ y) → Decides b (f x ≡ f y)
Decides-along f back decides = (λ e. ap f (decides.0 e), λ e. decides.1 (back e))

pub same_items-Decides : (xs ys : Items) → Decides (same_items xs ys) (xs ≡ ys)
same_items-Decides items.Empty items.Empty = (λ e. refl, λ e. refl)
same_items-Decides (items.Ints xs) (items.Ints ys) =
    Decides-along items.Ints (λ e. cc) (slice_eq-Decides signed_Decides xs ys _ refl)
same_items-Decides (items.Bools xs) (items.Bools ys) =
    Decides-along items.Bools (λ e. cc) (slice_eq-Decides booleans_Decides xs ys _ refl)
same_items-Decides (items.Texts xs) (items.Texts ys) =
    Decides-along items.Texts (λ e. cc) (slice_eq-Decides bytes_eq-Decides xs ys _ refl)
same_items-Decides _ _ = (λ e. cc, λ e. cc)

pub same_value-Decides : (a b : Value) → Decides (same_value a b) (a ≡ b)
same_value-Decides (value.Int a) (value.Int b) = Decides-along value.Int (λ e. cc) (signed_Decides a b)
same_value-Decides (value.Bool a) (value.Bool b) = Decides-along value.Bool (λ e. cc) (booleans_Decides a b)
same_value-Decides (value.Text a) (value.Text b) = Decides-along value.Text (λ e. cc) (bytes_eq-Decides a b)
same_value-Decides (value.List a) (value.List b) = Decides-along value.List (λ e. cc) (same_items-Decides a b)
same_value-Decides _ _ = (λ e. cc, λ e. cc)

pub same_items_equiv : IsEquivalence same_items
same_items_equiv = decided same_items same_items-Decides

pub same_value_equiv : IsEquivalence same_value
same_value_equiv = decided same_value same_value-Decides
