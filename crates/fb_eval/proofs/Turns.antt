-- The items of a list, turn by turn.
use Rattle.std.proofs.Common.{◌≡◌, ℕ, zero, suc, ◌+◌, List, [], ◌∷◌, length, drop, slice_get, Some, None, refl, sym, ap, ◌∙◌, arith, add-one, drop-cons}
use Rattle.std.proofs.lemmas.List.{length-map}
use Rattle.std.proofs.lemmas.Option.{get_or_from_slice_get, slice_get_within}
use Rattle.fb_base.specs.declared.items.Items.{Items}
use Rattle.fb_base.specs.declared.items.Items.TheVariants as items
use Rattle.fb_base.specs.declared.value.Value.TheVariants as value
use Rattle.fb_base.specs.Values.{length_of_items}
use Rattle.fb_meaning.specs.Bodies.{values_in}

-- the items from a place on
pub drop_at : {X : Type 0} (xs : List X) (k : ℕ) (x : X) → slice_get xs k ≡ Some x → drop k xs ≡ x ∷ drop (k + 1) xs
drop_at xs k x is = rw add-one (drop-cons xs k x (slice_get_within xs k x is) ∙ ap (λ y. y ∷ drop (suc k) xs) (get_or_from_slice_get xs k x x is))

pub drop_past : {X : Type 0} (xs : List X) (k : ℕ) → slice_get xs k ≡ None → drop k xs ≡ []
drop_past [] zero is = refl
drop_past [] (suc k) is = refl
drop_past (y ∷ xs) zero is = absurd (cc)
drop_past (y ∷ xs) (suc k) is = drop_past xs k is

drop_whole : {X : Type 0} (xs : List X) (k : ℕ) → length xs ≡ k → drop k xs ≡ []
drop_whole [] zero e = refl
drop_whole [] (suc k) e = refl
drop_whole (y ∷ xs) zero e = absurd (omega (arith, e))
drop_whole (y ∷ xs) (suc k) e = drop_whole xs k (omega (arith, e))

counted : (xs : Items) → length (values_in xs) ≡ length_of_items xs
counted items.Empty = refl
counted (items.Ints xs) = length-map xs value.Int
counted (items.Bools xs) = length-map xs value.Bool
counted (items.Texts xs) = length-map xs value.Text

-- behind the last one there are none
pub none_past : (xs : Items) (count : ℕ) → count ≡ length_of_items xs → drop count (values_in xs) ≡ []
none_past xs count e = drop_whole (values_in xs) count (counted xs ∙ sym e)
