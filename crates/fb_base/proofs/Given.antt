-- What holds of the value that an option has.
use Rattle.std.proofs.Common.{◌≡◌, Bool, true, false, Option, Some, None, cond, IfSome, refl}
use Rattle.std.specs.Option.{option_map, option_and_then}

pub IfSome-map : {A B : Type 0} (P : B → Type 0) (f : A → B) (o : Option A) → IfSome o (λ x. P (f x)) → IfSome (option_map f o) P
IfSome-map P f None h = tt
IfSome-map P f (Some x) h = h

pub IfSome-map_all : {A B : Type 0} (P : B → Type 0) (f : A → B) (o : Option A) → ((x : A) → P (f x)) → IfSome (option_map f o) P
IfSome-map_all P f None h = tt
IfSome-map_all P f (Some x) h = h x

pub IfSome-then : {A B : Type 0} (P : B → Type 0) (f : A → Option B) (o : Option A) →
    IfSome o (λ x. IfSome (f x) P) → IfSome (option_and_then f o) P
IfSome-then P f None h = tt
IfSome-then P f (Some x) h = h

pub IfSome-cond : {A : Type 0} (P : A → Type 0) (b : Bool) (x : A) → (b ≡ true → P x) → IfSome (cond b (Some x) None) P
IfSome-cond P true x h = h refl
IfSome-cond P false x h = tt

pub IfSome-all : {A : Type 0} (P : A → Type 0) (o : Option A) → ((x : A) → P x) → IfSome o P
IfSome-all P None h = tt
IfSome-all P (Some x) h = h x
