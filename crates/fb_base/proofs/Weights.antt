-- Weights of lists that are joined.
use Rattle.std.proofs.Common.{◌≡◌, ℕ, ◌+◌, ◌-◌, ◌<◌, ◌≤◌, List, [], ◌∷◌, ◌++◌, length, length-append, arith}
use Rattle.std.proofs.lemmas.List.Sums.{sum_by-append, sum_by-cons}
use Rattle.std.proofs.lemmas.List.Elements.{All-append}
use Rattle.std.specs.List.{sum_by}
use Rattle.fb_base.specs.Weight.{weight_of_list, heaviest, IsWeighed}

pub weight_of_list-append : {A : Type 0} (weight : A → ℕ) (xs ys : List A) →
    weight_of_list weight (xs ++ ys) ≡ weight_of_list weight xs + weight_of_list weight ys - 1
weight_of_list-append weight xs ys = omega (arith, sum_by-append weight xs ys)

pub IsWeighed-append : {A : Type 0} (weight : A → ℕ) (proper : A → Type 0) (xs ys : List A) →
    IsWeighed weight proper xs → IsWeighed weight proper ys → weight_of_list weight (xs ++ ys) ≤ heaviest →
    IsWeighed weight proper (xs ++ ys)
IsWeighed-append weight proper xs ys front back light = record {
  some = omega (arith, length-append xs ys);
  light = light;
  each = All-append proper xs ys front.each back.each;
}

-- a list has no more items than it weighs
pub length-le-sum_by : {A : Type 0} (weight : A → ℕ) → ((x : A) → 0 < weight x) → (xs : List A) → length xs ≤ sum_by weight xs
length-le-sum_by weight weighs [] = omega arith
length-le-sum_by weight weighs (x ∷ xs) =
    omega (arith, sum_by-cons weight x xs, weighs x, length-le-sum_by weight weighs xs)
