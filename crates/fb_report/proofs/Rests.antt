-- Lists that are taken item by item.
use Rattle.std.proofs.Common.{◌≡◌, ℕ, ◌-◌, ◌≤◌, List, [], ◌∷◌, ◌++◌, Option, Some, None, length, take, drop, get_or, take_all, option_map, option_and_then, refl, subst, sym, ap, ◌∙◌, arith, append_assoc}
use Rattle.std.specs.List.{All}
use Rattle.std.proofs.lemmas.List.Elements.{All-tail}
use Rattle.fb_report.specs.Names.{each_of}

-- what holds of each item holds of each behind the first
pub all-rest : {A : Type 0} (P : A → Type 0) (left : List A) → 1 ≤ length left → All P left → All P (take (length left - 1) (drop 1 left))
all-rest P [] some all = absurd (omega arith)
all-rest P (x ∷ xs) some all = subst (All P) (sym (take_all (length (x ∷ xs) - 1) xs (omega arith))) (All-tail P x xs all)

regrouped : {B : Type 0} (done : List B) (y : B) (o : Option (List B)) → option_map (λ ys. done ++ ys) (option_map (λ ys. y ∷ ys) o) ≡ option_map (λ ys. (done ++ y ∷ []) ++ ys) o
regrouped done y None = refl
regrouped done y (Some ys) = ap Some (sym (append_assoc done (y ∷ []) ys))

-- what an item gives comes behind what those before it gave
pub each-step : {A B : Type 0} (f : A → Option B) (all left : List A) (x : A) (done : List B) (y : B) (grown : List B) → each_of f all ≡ option_map (λ ys. done ++ ys) (each_of f left) → 1 ≤ length left
    → x ≡ get_or left 0 x → f x ≡ Some y → grown ≡ done ++ y ∷ [] → each_of f all ≡ option_map (λ ys. grown ++ ys) (each_of f (take (length left - 1) (drop 1 left)))
each-step f all [] x done y grown so_far some is gives more = absurd (omega arith)
each-step f all (k ∷ rest) x done y grown so_far some is gives more =
    let given : f k ≡ Some y = ap f (sym is) ∙ gives in
    let next : each_of f (k ∷ rest) ≡ option_map (λ ys. y ∷ ys) (each_of f rest) = ap (option_and_then (λ z. option_map (λ ys. z ∷ ys) (each_of f rest))) given in
    let whole : each_of f all ≡ option_map (λ ys. grown ++ ys) (each_of f rest) =
    so_far ∙ ap (option_map (λ ys. done ++ ys)) next ∙ regrouped done y (each_of f rest) ∙ ap (λ zs. option_map (λ ys. zs ++ ys) (each_of f rest)) (sym more) in
    subst (λ xs. each_of f all ≡ option_map (λ ys. grown ++ ys) (each_of f xs)) (sym (take_all (length (k ∷ rest) - 1) rest (omega arith))) whole
