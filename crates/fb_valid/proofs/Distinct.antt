-- Lists whose items differ.
use Rattle.std.proofs.Common.{◌≡◌, ⊎_elim, List, [], ◌∷◌, ◌++◌, Contains, sym, ap, subst}
use Rattle.std.proofs.lemmas.List.Elements.{Contains-append_right}
use Rattle.fb_campaign.specs.Runs.{AreDistinct}
use Rattle.fb_valid.proofs.Lists.{in_none, in_head, in_tail, in_cases, split}

-- where no item stands before itself
pub distinct_items : {A : Type 0} (xs : List A) → ((before : List A) (x : A) (after : List A) → xs ≡ before ++ x ∷ after → ¬ (Contains before x)) → AreDistinct xs
distinct_items [] new = tt
distinct_items (x ∷ xs) new = (
  λ has. (let cut = split xs x has in new (x ∷ cut.before) x cut.after (ap (λ ys. x ∷ ys) cut.is) (in_head x cut.before)),
  distinct_items xs (λ before y after is has. new (x ∷ before) y after (ap (λ ys. x ∷ ys) is) (in_tail y x before has)),
)

-- and the other way round
pub distinct_apart : {A : Type 0} (xs ys : List A) (x : A) → AreDistinct (xs ++ x ∷ ys) → ¬ (Contains xs x)
distinct_apart [] ys x all has = in_none x has
distinct_apart (y ∷ xs) ys x all has =
    ⊎_elim (λ same. all.0 (subst (Contains (xs ++ x ∷ ys)) (sym same) (Contains-append_right xs (x ∷ ys) x (in_head x ys))))
    (λ later. distinct_apart xs ys x all.1 later) (in_cases x y xs has)
