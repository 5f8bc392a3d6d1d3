-- The parameters of a body as its first variables.
use Rattle.std.proofs.Common.{◌≡◌, ◌≢◌, ℕ, zero, suc, ◌<◌, Bool, true, false, cond, bytes_eq, List, [], ◌∷◌, ◌++◌, map, flat_map, length, get_or, slice_get, Option, Some, None, All, refl, sym, ap, ◌∙◌, subst, inl, inr, ◌⊎◌, append_assoc, arith}
use Rattle.std.proofs.lemmas.Slice.Eq.{bytes_eq-Decides}
use Rattle.std.proofs.lemmas.List.Elements.{All-head, All-tail}
use Rattle.std.proofs.lemmas.Option.{slice_get_within, get_or_from_slice_get}
use Rattle.fb_base.specs.declared.value.Value.{Value}
use Rattle.fb_syntax.specs.Trees.{Parameter, MethodTree, ServiceTree, ServicesTree}
use Rattle.fb_check.specs.Accepted.{AllDiffer, IsAcceptedMethod, IsAcceptedService}
use Rattle.fb_meaning.specs.Evaluations.{NamedValue}
use Rattle.fb_meaning.specs.Variables.{value_named, parameters_with}

-- ---- names that differ

-- the name is none of theirs
abbrev pub IsOther : List ℕ → List Parameter → Type 0
IsOther name [] = Unit {0}
IsOther name (param ∷ params) = (name ≢ param.name) × IsOther name params

-- no variable has one of their names
abbrev pub AreNew : List NamedValue → List Parameter → Type 0
AreNew variables [] = Unit {0}
AreNew variables (param ∷ params) = (value_named variables param.name ≡ None) × AreNew variables params

-- their names differ
abbrev pub Differ : List Parameter → Type 0
Differ [] = Unit {0}
Differ (param ∷ params) = IsOther param.name params × Differ params

is_other : (name : List ℕ) (params : List Parameter)
    → ((k : ℕ) → k < length (map (λ (p : Parameter). p.name) params) → name ≢ get_or (map (λ (p : Parameter). p.name) params) k name)
    → IsOther name params
is_other name [] apart = tt
is_other name (param ∷ params) apart =
    (apart 0 (omega arith), is_other name params (λ k within. apart (suc k) (omega arith)))

pub differ_from : (params : List Parameter) → AllDiffer (map (λ (p : Parameter). p.name) params) → Differ params
differ_from [] apart = tt
differ_from (param ∷ params) apart = (
  is_other param.name params (λ k within. apart 0 (suc k) param.name (omega arith) (omega arith)),
  differ_from params (λ i j d below within. apart (suc i) (suc j) d (omega arith) (omega arith)),
)

pub new_at_first : (params : List Parameter) → AreNew [] params
new_at_first [] = tt
new_at_first (param ∷ params) = (refl, new_at_first params)

unequal : (name other : List ℕ) (b : Bool) → bytes_eq name other ≡ b → other ≢ name → b ≡ false
unequal name other true same differ = absurd (differ (sym ((bytes_eq-Decides name other).0 same)))
unequal name other false same differ = refl

still_at : (value : Value) (b : Bool) (found more : Option Value) → cond b (Some value) found ≡ None → (found ≡ None → more ≡ None) → cond b (Some value) more ≡ None
still_at value true found more none later = absurd (cc)
still_at value false found more none later = later none

still_new : (variables : List NamedValue) (last : NamedValue) (name : List ℕ) → value_named variables name ≡ None → last.name ≢ name
    → value_named (variables ++ last ∷ []) name ≡ None
still_new [] last name none differ = ap (λ (b : Bool). cond b (Some last.value) None) (unequal name last.name (bytes_eq name last.name) refl differ)
still_new (variable ∷ variables) last name none differ =
    still_at variable.value (bytes_eq name variable.name) (value_named variables name) (value_named (variables ++ last ∷ []) name) none
    (λ rest. still_new variables last name rest differ)

-- a variable more leaves those new whose name is another
pub new_later : (variables : List NamedValue) (last : NamedValue) (params : List Parameter) → AreNew variables params → IsOther last.name params
    → AreNew (variables ++ last ∷ []) params
new_later variables last [] new other = tt
new_later variables last (param ∷ params) new other =
    (still_new variables last param.name new.0 other.0, new_later variables last params new.1 other.1)

-- ---- accepted methods

in_either : {A : Type 0} (xs ys : List A) (k : ℕ) (x : A) → slice_get (xs ++ ys) k ≡ Some x
    → (slice_get xs k ≡ Some x) ⊎ ((n : ℕ) × (slice_get ys n ≡ Some x))
in_either [] ys k x is = inr (k, is)
in_either (first ∷ xs) ys zero x is = inl is
in_either (first ∷ xs) ys (suc k) x is = in_either xs ys k x is

all_at : {A : Type 0} (P : A → Type 0) (xs : List A) (k : ℕ) (x : A) → All P xs → slice_get xs k ≡ Some x → P x
all_at P xs k x all is = subst P (get_or_from_slice_get xs k x x is) (all k x (slice_get_within xs k x is))

chosen : (tree : ServicesTree) (service : ServiceTree) (services : List ServiceTree) (m : ℕ) (method : MethodTree) → IsAcceptedService tree service
    → ((n : ℕ) → slice_get (flat_map (λ (s : ServiceTree). s.methods) services) n ≡ Some method → IsAcceptedMethod tree method)
    → (slice_get service.methods m ≡ Some method) ⊎ ((n : ℕ) × (slice_get (flat_map (λ (s : ServiceTree). s.methods) services) n ≡ Some method))
    → IsAcceptedMethod tree method
chosen tree service services m method accepted later (inl here) = all_at (IsAcceptedMethod tree) service.methods m method accepted.methods_accepted here
chosen tree service services m method accepted later (inr there) = later there.0 there.1

-- a method by its number is one of an accepted service
pub accepted_method : (tree : ServicesTree) (services : List ServiceTree) (m : ℕ) (method : MethodTree) → All (IsAcceptedService tree) services
    → slice_get (flat_map (λ (s : ServiceTree). s.methods) services) m ≡ Some method → IsAcceptedMethod tree method
accepted_method tree [] m method accepted is = absurd (cc)
accepted_method tree (service ∷ services) m method accepted is =
    chosen tree service services m method (All-head (IsAcceptedService tree) service services accepted)
    (λ n found. accepted_method tree services n method (All-tail (IsAcceptedService tree) service services accepted) found)
    (in_either service.methods (flat_map (λ (s : ServiceTree). s.methods) services) m method is)

-- ---- one parameter after the other

-- the variables so far and those of what is left are the whole, and none of them has another's name
pub record GoesOn (variables : List NamedValue) (params : List Parameter) (args : List Value) (whole : List NamedValue) : Type 0 where
  pub gives : variables ++ parameters_with params args ≡ whole
  pub new : AreNew variables params
  pub differ : Differ params

pub goes_on : (variables : List NamedValue) (param : Parameter) (params : List Parameter) (value : Value) (args : List Value) (whole : List NamedValue)
    → GoesOn variables (param ∷ params) (value ∷ args) whole → GoesOn (variables ++ record { name = param.name; value = value } ∷ []) params args whole
goes_on variables param params value args whole before = record {
  gives = append_assoc variables (record { name = param.name; value = value } ∷ []) (parameters_with params args) ∙ before.gives;
  new = new_later variables (record { name = param.name; value = value }) params before.new.1 before.differ.0;
  differ = before.differ.1;
}
