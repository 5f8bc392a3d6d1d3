-- The longest front of a list whose bytes are of one kind.
use Rattle.std.proofs.Common.{◌≡◌, ℕ, suc, ◌+◌, Bool, true, false, List, [], ◌∷◌, ◌++◌, length, take, drop, arith, refl, inl, inr}
use Rattle.std.specs.List.{prefix_len, list_all}
use Rattle.std.proofs.lemmas.Bool.{and_from, and_parts, cases_Bool}
use Rattle.fb_syntax.specs.Tokens.{begins}

pub run_all : (p : ℕ → Bool) (xs : List ℕ) → list_all p (take (prefix_len p xs) xs) ≡ true
run_all p [] = refl
run_all p (x ∷ xs) =
    let longer : 1 + prefix_len p xs ≡ suc (prefix_len p xs) = omega arith in
    elim (cases_Bool (p x)) [
      | inl yes_it_is ↦ rw (yes_it_is, longer) (and_from (p x) (list_all p (take (prefix_len p xs) xs)) yes_it_is (run_all p xs))
      | inr no_it_is ↦ rw no_it_is refl
    ]

pub run_ends : (p : ℕ → Bool) (xs : List ℕ) → begins p (drop (prefix_len p xs) xs) ≡ false
run_ends p [] = refl
run_ends p (x ∷ xs) =
    let longer : 1 + prefix_len p xs ≡ suc (prefix_len p xs) = omega arith in
    elim (cases_Bool (p x)) [
      | inl yes_it_is ↦ rw (yes_it_is, longer) (run_ends p xs)
      | inr no_it_is ↦ rw no_it_is no_it_is
    ]

pub run_is : (p : ℕ → Bool) (xs ys : List ℕ) → list_all p xs ≡ true → begins p ys ≡ false → prefix_len p (xs ++ ys) ≡ length xs
run_is p [] [] h e = refl
run_is p [] (y ∷ ys) h e = rw e refl
run_is p (x ∷ xs) ys h e =
    let parts = and_parts (p x) (list_all p xs) h in
    rw (parts.0, run_is p xs ys parts.1 e) (omega arith)

-- a run that has a first byte has a length
pub run_some : (p : ℕ → Bool) (x : ℕ) (xs : List ℕ) → p x ≡ true → prefix_len p (x ∷ xs) ≡ suc (prefix_len p xs)
run_some p x xs h = rw h (omega arith)
