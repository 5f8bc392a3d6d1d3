-- What holds of each item of a list, and of what is made of it.
use Rattle.std.proofs.Common.{◌≡◌, ℕ, zero, suc, Bool, true, false, cond, List, [], ◌∷◌, ◌++◌, map, filter, flat_map, Contains, Option, Some, refl, subst, arith}
use Rattle.std.specs.List.{All, last_or}
use Rattle.std.proofs.lemmas.List.Elements.{All-nil, All-cons}
use Rattle.fb_meaning.specs.Each.{HoldsOfEach}

pub each_joined : {A : Type 0} (P : A → Type 0) (xs ys : List A) → HoldsOfEach P xs → HoldsOfEach P ys → HoldsOfEach P (xs ++ ys)
each_joined P [] ys front rest = rest
each_joined P (x ∷ xs) ys front rest = (front.0, each_joined P xs ys front.1 rest)

pub each_also : {A : Type 0} (P Q : A → Type 0) → ((x : A) → P x → Q x) → (xs : List A) → HoldsOfEach P xs → HoldsOfEach Q xs
each_also P Q also [] each = tt
each_also P Q also (x ∷ xs) each = (also x each.0, each_also P Q also xs each.1)

pub each_member : {A : Type 0} (P : A → Type 0) (xs : List A) → ((x : A) → Contains xs x → P x) → HoldsOfEach P xs
each_member P [] member = tt
each_member P (x ∷ xs) member = (member x (0, omega arith, refl), each_member P xs (λ y has. member y (suc has.0, (let within = has.1 in omega (arith, within)), has.2)))

pub each_at : {A : Type 0} (P : A → Type 0) (xs : List A) → HoldsOfEach P xs → (x : A) → Contains xs x → P x
each_at P [] each x (k, within, is) = absurd (omega (arith, within))
each_at P (y ∷ xs) each x (zero, within, is) = subst P is each.0
each_at P (y ∷ xs) each x (suc k, within, is) = each_at P xs each.1 x (k, omega (arith, within), is)

pub each_mapped : {A B : Type 0} (P : B → Type 0) (f : A → B) (xs : List A) → HoldsOfEach (λ x. P (f x)) xs → HoldsOfEach P (map f xs)
each_mapped P f [] each = tt
each_mapped P f (x ∷ xs) each = (each.0, each_mapped P f xs each.1)

pub each_flat : {A B : Type 0} (P : B → Type 0) (f : A → List B) (xs : List A) → HoldsOfEach (λ x. HoldsOfEach P (f x)) xs → HoldsOfEach P (flat_map f xs)
each_flat P f [] each = tt
each_flat P f (x ∷ xs) each = each_joined P (f x) (flat_map f xs) each.0 (each_flat P f xs each.1)

kept : {A : Type 0} (p : A → Bool) (x : A) (xs : List A) (b : Bool) → p x ≡ b → HoldsOfEach (λ y. p y ≡ true) xs → HoldsOfEach (λ y. p y ≡ true) (cond b (x ∷ xs) xs)
kept p x xs true is each = (is, each)
kept p x xs false is each = each

pub each_filtered : {A : Type 0} (p : A → Bool) (xs : List A) → HoldsOfEach (λ x. p x ≡ true) (filter p xs)
each_filtered p [] = tt
each_filtered p (x ∷ xs) = kept p x (filter p xs) (p x) refl (each_filtered p xs)

pub all_of_each : {A : Type 0} (P : A → Type 0) (xs : List A) → HoldsOfEach P xs → All P xs
all_of_each P [] each = All-nil P
all_of_each P (x ∷ xs) each = All-cons P x xs each.0 (all_of_each P xs each.1)

pub last_push : {A : Type 0} (o : Option A) (xs : List A) (x : A) → last_or o (xs ++ x ∷ []) ≡ Some x
last_push o [] x = refl
last_push o (y ∷ xs) x = last_push (Some y) xs x

pub each_last : {A : Type 0} (P : A → Type 0) (o : Option A) (xs : List A) (x : A) → ((y : A) → o ≡ Some y → P y) → HoldsOfEach P xs → last_or o xs ≡ Some x → P x
each_last P o [] x first each is = first x is
each_last P o (y ∷ xs) x first each is = each_last P (Some y) xs x (λ z same. subst P (cc) each.0) each.1 is
