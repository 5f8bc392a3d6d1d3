-- Tests and what they tell.
use Rattle.std.proofs.Common.{◌≡◌, ◌⊎◌, Bool, true, false, cond, Option, Some, None, refl, inl, inr}

-- which way a choice went
pub chosen : {A : Type 0} (b : Bool) (x y z : A) → cond b x y ≡ z → ((b ≡ true) × (x ≡ z)) ⊎ ((b ≡ false) × (y ≡ z))
chosen true x y z h = inl (refl, h)
chosen false x y z h = inr (refl, h)

pub some_is : {A : Type 0} (x y : A) → (let wrap : A → Option A = λ z. Some z in wrap x ≡ wrap y) → x ≡ y
some_is x y h = cc

-- a test that chose something
pub some_chosen : {A : Type 0} (b : Bool) (x : Option A) (z : A) → cond b x None ≡ Some z → (b ≡ true) × (x ≡ Some z)
some_chosen true x z h = (refl, h)
some_chosen false x z h = absurd cc
