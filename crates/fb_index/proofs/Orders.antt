-- The dictionary order of lists, taken from their ends.
use Rattle.std.proofs.Common.{◌≡◌, ℕ, suc, nat_cmp, List, [], ◌∷◌, ◌++◌, length, take, refl, ap, sym, ◌∙◌, arith}
use Rattle.std.proofs.lemmas.Bool.Decides.{nat_tests}
use Rattle.std.specs.declared.cmp.Ordering.{Ordering}
use Rattle.std.specs.declared.cmp.Ordering.TheVariants.{Less, Equal, Greater}
use Rattle.std.specs.Ordering.{ordering_then}
use Rattle.std.specs.Cmp.Lexicographic.{slice_cmp}

then_assoc : (a b c : Ordering) → ordering_then (ordering_then a b) c ≡ ordering_then a (ordering_then b c)
then_assoc Less b c = refl
then_assoc Equal b c = refl
then_assoc Greater b c = refl

nat_cmp-suc : (m n : ℕ) → nat_cmp (suc m) (suc n) ≡ nat_cmp m n
nat_cmp-suc m n = grind (arith, nat_tests)

module _ {A : Type 0} (R : A → A → Ordering) where
  -- of lists that are as long, the last items decide where nothing before them does
  pub slice_cmp-push : (xs ys : List A) (x y : A) (o : Ordering) → length xs ≡ length ys →
      ordering_then (slice_cmp R (xs ++ x ∷ []) (ys ++ y ∷ [])) o ≡ ordering_then (slice_cmp R xs ys) (ordering_then (R x y) o)
  slice_cmp-push [] [] x y o same = then_assoc (R x y) Equal o
  slice_cmp-push [] (b ∷ ys) x y o same = absurd (omega arith)
  slice_cmp-push (a ∷ xs) [] x y o same = absurd (omega arith)
  slice_cmp-push (a ∷ xs) (b ∷ ys) x y o same =
      then_assoc (R a b) (slice_cmp R (xs ++ x ∷ []) (ys ++ y ∷ [])) o
      ∙ ap (ordering_then (R a b)) (slice_cmp-push xs ys x y o (omega arith))
      ∙ sym (then_assoc (R a b) (slice_cmp R xs ys) (ordering_then (R x y) o))

  -- the fronts that are as long decide, and then the lengths
  pub slice_cmp-fronts : (xs ys : List A) → slice_cmp R xs ys
      ≡ ordering_then (slice_cmp R (take (length ys) xs) (take (length xs) ys)) (nat_cmp (length xs) (length ys))
  slice_cmp-fronts [] [] = refl
  slice_cmp-fronts [] (y ∷ ys) = grind (arith, nat_tests)
  slice_cmp-fronts (x ∷ xs) [] = grind (arith, nat_tests)
  slice_cmp-fronts (x ∷ xs) (y ∷ ys) =
      ap (ordering_then (R x y)) (slice_cmp-fronts xs ys ∙ ap (ordering_then _) (sym (nat_cmp-suc (length xs) (length ys))))
      ∙ sym (then_assoc (R x y) (slice_cmp R (take (length ys) xs) (take (length xs) ys)) (nat_cmp (suc (length xs)) (suc (length ys))))
