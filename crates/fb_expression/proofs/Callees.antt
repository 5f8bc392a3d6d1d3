-- A question goes over the different callees, or over all of them.
use Rattle.std.proofs.Common.{◌≡◌, ℕ, Bool, true, false, ◌||◌, List, [], ◌∷◌, ◌++◌, refl, sym, ap, ◌∙◌}
use Rattle.std.specs.declared.cmp.Ordering.{Ordering}
use Rattle.std.specs.declared.cmp.Ordering.TheVariants.{Less, Equal, Greater}
use Rattle.std.specs.Ordering.{nat_cmp, match_ordering}
use Rattle.std.specs.List.{list_any}
use Rattle.std.specs.BTreeSet.{insert_key}
use Rattle.std.proofs.lemmas.List.Folds.{list_any-append}
use Rattle.std.proofs.lemmas.Map.Lookups.{exact_unsigned}
use Rattle.fb_base.specs.declared.method.MethodId.{MethodId}
use Rattle.fb_expression.specs.Questions.{HasCallees}

first_again : (a b : Bool) → (a || b) ≡ (a || (a || b))
first_again true b = refl
first_again false b = refl

swapped : (a b c : Bool) → (b || (a || c)) ≡ (a || (b || c))
swapped true true c = refl
swapped true false c = refl
swapped false true c = refl
swapped false false c = refl

inserted_at : (test : ℕ → Bool) (k key : ℕ) (keys more : List ℕ) (order : Ordering) → nat_cmp k key ≡ order
    → list_any test more ≡ (test k || list_any test keys)
    → list_any test (match_ordering order (k ∷ key ∷ keys) (key ∷ keys) (key ∷ more)) ≡ (test k || (test key || list_any test keys))
inserted_at test k key keys more Less is later = refl
inserted_at test k key keys more Equal is later =
    first_again (test key) (list_any test keys) ∙ ap (λ (n : ℕ). test n || (test key || list_any test keys)) (sym (exact_unsigned k key is))
inserted_at test k key keys more Greater is later =
    ap (λ (b : Bool). test key || b) later ∙ swapped (test k) (test key) (list_any test keys)

any-insert : (test : ℕ → Bool) (k : ℕ) (keys : List ℕ) → list_any test (insert_key nat_cmp keys k) ≡ (test k || list_any test keys)
any-insert test k [] = refl
any-insert test k (key ∷ keys) = inserted_at test k key keys (insert_key nat_cmp keys k) (nat_cmp k key) refl (any-insert test k keys)

last_first : (a b : Bool) → (a || b) ≡ (b || (a || false))
last_first true true = refl
last_first true false = refl
last_first false true = refl
last_first false false = refl

-- one callee more
pub callees-push : (keys : List ℕ) (callees : List MethodId) (callee : MethodId) → HasCallees keys callees
    → HasCallees (insert_key nat_cmp keys callee.0) (callees ++ callee ∷ [])
callees-push keys callees callee has = λ test.
    any-insert test callee.0 keys
    ∙ ap (λ (b : Bool). test callee.0 || b) (has test)
    ∙ last_first (test callee.0) (list_any (λ (m : MethodId). test m.0) callees)
    ∙ sym (list_any-append (λ (m : MethodId). test m.0) callees (callee ∷ []))
