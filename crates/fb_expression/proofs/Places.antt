-- Where variables stand, in a list that grows and shrinks at its end.
use Rattle.std.proofs.Common.{◌≡◌, ℕ, zero, suc, ◌<◌, Bool, true, false, cond, bytes_eq, List, [], ◌∷◌, ◌++◌, length, take, get_or, Option, Some, None, option_map, is_some, refl, sym, ap, ◌∙◌, arith}
use Rattle.std.proofs.Math.ListN.{set}
use Rattle.std.proofs.lemmas.Slice.Eq.{bytes_eq-Decides}
use Rattle.fb_base.specs.declared.value.Value.{Value}
use Rattle.fb_meaning.specs.Evaluations.{NamedValue}
use Rattle.fb_meaning.specs.Variables.{value_named, with_value_of}
use Rattle.fb_expression.specs.Scopes.{place_named, NamesDiffer}

-- ---- a variable by its place

within_at : (n : ℕ) (b : Bool) (found : Option ℕ) (k : ℕ) → cond b (Some zero) (option_map suc found) ≡ Some k
    → ((j : ℕ) → found ≡ Some j → j < n) → k < suc n
within_at n true found k is below = let here : zero ≡ k = cc in omega arith
within_at n false None k is below = absurd (cc)
within_at n false (Some j) k is below = let here : suc j ≡ k = cc in omega (arith, below j refl)

pub place_within : (variables : List NamedValue) (name : List ℕ) (k : ℕ) → place_named variables name ≡ Some k → k < length variables
place_within [] name k is = absurd (cc)
place_within (variable ∷ variables) name k is =
    within_at (length variables) (bytes_eq name variable.name) (place_named variables name) k is (place_within variables name)

value_at : (variables : List NamedValue) (name : List ℕ) (variable : NamedValue) (b : Bool) (found : Option ℕ) (k : ℕ) (x : NamedValue)
    → cond b (Some zero) (option_map suc found) ≡ Some k → x ≡ get_or (variable ∷ variables) k x
    → ((j : ℕ) → found ≡ Some j → x ≡ get_or variables j x → value_named variables name ≡ Some x.value)
    → cond b (Some variable.value) (value_named variables name) ≡ Some x.value
value_at variables name variable true found zero x is at later = ap (λ (v : NamedValue). Some v.value) (sym at)
value_at variables name variable true found (suc k) x is at later = absurd (cc)
value_at variables name variable false None k x is at later = absurd (cc)
value_at variables name variable false (Some j) zero x is at later = absurd (cc)
value_at variables name variable false (Some j) (suc k) x is at later = let here : Some j ≡ Some k = cc in later k here at

-- the variable that stands there is the one with the name
pub value_placed : (variables : List NamedValue) (name : List ℕ) (k : ℕ) (x : NamedValue) → place_named variables name ≡ Some k
    → x ≡ get_or variables k x → value_named variables name ≡ Some x.value
value_placed [] name k x is at = absurd (cc)
value_placed (variable ∷ variables) name k x is at =
    value_at variables name variable (bytes_eq name variable.name) (place_named variables name) k x is at (λ j here. value_placed variables name j x here)

some_at : (value : Value) (b : Bool) (found : Option Value) (place : Option ℕ) → is_some found ≡ is_some place
    → is_some (cond b (Some value) found) ≡ is_some (cond b (Some zero) (option_map suc place))
some_at value true found place same = refl
some_at value false found None same = same
some_at value false found (Some k) same = same

-- there is a value with a name where it has a place
pub same_found : (variables : List NamedValue) (name : List ℕ) → is_some (value_named variables name) ≡ is_some (place_named variables name)
same_found [] name = refl
same_found (variable ∷ variables) name =
    some_at variable.value (bytes_eq name variable.name) (value_named variables name) (place_named variables name) (same_found variables name)

pub none_of : {A : Type 0} (found : Option A) → is_some found ≡ false → found ≡ None
none_of None is = refl
none_of (Some x) is = absurd (cc)

pub no_value : (variables : List NamedValue) (name : List ℕ) → place_named variables name ≡ None → value_named variables name ≡ None
no_value variables name none = none_of (value_named variables name) (same_found variables name ∙ ap is_some none)

-- ---- one variable more

-- the first where there is one
first_of : Option ℕ → Option ℕ → Option ℕ
first_of (Some k) other = Some k
first_of None other = other

push_at : (n : ℕ) (here last : Bool) (found : Option ℕ)
    → cond here (Some zero) (option_map suc (first_of found (cond last (Some n) None)))
    ≡ first_of (cond here (Some zero) (option_map suc found)) (cond last (Some (suc n)) None)
unfolding first_of
push_at n true last found = refl
push_at n false last (Some k) = refl
push_at n false true None = refl
push_at n false false None = refl

place-push : (variables : List NamedValue) (last : NamedValue) (name : List ℕ)
    → place_named (variables ++ last ∷ []) name ≡ first_of (place_named variables name) (cond (bytes_eq name last.name) (Some (length variables)) None)
unfolding first_of
place-push [] last name = refl
place-push (variable ∷ variables) last name =
    ap (λ (found : Option ℕ). cond (bytes_eq name variable.name) (Some zero) (option_map suc found)) (place-push variables last name)
    ∙ push_at (length variables) (bytes_eq name variable.name) (bytes_eq name last.name) (place_named variables name)

pushed : (variables : List NamedValue) (name : List ℕ) (last : NamedValue) → place_named variables last.name ≡ None
    → (found : Option ℕ) → place_named variables name ≡ found → (b : Bool) → bytes_eq name last.name ≡ b
    → first_of found (cond b (Some (length variables)) None) ≡ cond b (Some (length variables)) found
unfolding first_of
pushed variables name last none None is b same = refl
pushed variables name last none (Some k) is false same = refl
pushed variables name last none (Some k) is true same =
    absurd (let wrong = sym is ∙ ap (place_named variables) ((bytes_eq-Decides name last.name).0 same) ∙ none in cc)

-- a new variable is found by its name, and each other one as before
pub place-pushed : (variables : List NamedValue) (name : List ℕ) (last : NamedValue) → place_named variables last.name ≡ None
    → place_named (variables ++ last ∷ []) name ≡ cond (bytes_eq name last.name) (Some (length variables)) (place_named variables name)
place-pushed variables name last none =
    place-push variables last name ∙ pushed variables name last none (place_named variables name) refl (bytes_eq name last.name) refl

popped : (variables : List NamedValue) (name : List ℕ) (last : NamedValue) → place_named variables last.name ≡ None
    → (b : Bool) → bytes_eq name last.name ≡ b → cond b None (cond b (Some (length variables)) (place_named variables name)) ≡ place_named variables name
popped variables name last none true same = sym (ap (place_named variables) ((bytes_eq-Decides name last.name).0 same) ∙ none)
popped variables name last none false same = refl

-- without the last variable its name isn't found
pub place-popped : (variables : List NamedValue) (name : List ℕ) (last : NamedValue) → place_named variables last.name ≡ None
    → cond (bytes_eq name last.name) None (place_named (variables ++ last ∷ []) name) ≡ place_named variables name
place-popped variables name last none =
    ap (cond (bytes_eq name last.name) None) (place-pushed variables name last none) ∙ popped variables name last none (bytes_eq name last.name) refl

-- ---- names that differ

apart : (b : Bool) (found : Option ℕ) → cond b (Some zero) (option_map suc found) ≡ None → (b ≡ false) × (found ≡ None)
apart true found none = absurd (cc)
apart false None none = (refl, refl)
apart false (Some k) none = absurd (cc)

apart_last : (n : ℕ) (b : Bool) (found : Option ℕ) → first_of found (cond b (Some n) None) ≡ None → (b ≡ false) × (found ≡ None)
unfolding first_of
apart_last n b (Some k) none = absurd (cc)
apart_last n true None none = absurd (cc)
apart_last n false None none = (refl, refl)

not_other : (name other : List ℕ) (b c : Bool) → bytes_eq name other ≡ b → b ≡ false → bytes_eq other name ≡ c → c ≡ false
not_other name other b true is no_match back =
    let equal = (bytes_eq-Decides name other).1 (sym ((bytes_eq-Decides other name).0 back)) in absurd (cc)
not_other name other b false is no_match back = refl

pub differ-push : (variables : List NamedValue) (last : NamedValue) → NamesDiffer variables → place_named variables last.name ≡ None
    → NamesDiffer (variables ++ last ∷ [])
unfolding first_of
differ-push [] last differ none = (refl, tt)
differ-push (variable ∷ variables) last differ none =
    let other = apart (bytes_eq last.name variable.name) (place_named variables last.name) none in
    let back = not_other last.name variable.name (bytes_eq last.name variable.name) (bytes_eq variable.name last.name) refl other.0 refl in (
      place-push variables last variable.name
          ∙ ap (λ (found : Option ℕ). first_of found (cond (bytes_eq variable.name last.name) (Some (length variables)) None)) differ.0
          ∙ ap (λ (b : Bool). cond b (Some (length variables)) None) back,
      differ-push variables last differ.1 other.1,
    )

pub differ-pop : (variables : List NamedValue) (last : NamedValue) → NamesDiffer (variables ++ last ∷ [])
    → NamesDiffer variables × (place_named variables last.name ≡ None)
differ-pop [] last differ = (tt, refl)
differ-pop (variable ∷ variables) last differ =
    let rest = differ-pop variables last differ.1 in
    let other = apart_last (length variables) (bytes_eq variable.name last.name) (place_named variables variable.name) (sym (place-push variables last variable.name) ∙ differ.0) in
    let back = not_other variable.name last.name (bytes_eq variable.name last.name) (bytes_eq last.name variable.name) refl other.0 refl in (
      (other.1, rest.0),
      ap (λ (b : Bool). cond b (Some zero) (option_map suc (place_named variables last.name))) back
          ∙ ap (option_map suc) rest.1,
    )

-- ---- another value

-- the value is another one, and the name stays
abbrev pub with_value : NamedValue → Value → NamedValue
with_value variable value = record { name = variable.name; value = value }

pub place-set : (variables : List NamedValue) (k : ℕ) (x : NamedValue) (value : Value) → x ≡ get_or variables k x
    → (name : List ℕ) → place_named (set variables k (with_value x value)) name ≡ place_named variables name
place-set [] k x value at name = refl
place-set (variable ∷ variables) zero x value at name =
    ap (λ (v : NamedValue). cond (bytes_eq name v.name) (Some zero) (option_map suc (place_named variables name))) at
place-set (variable ∷ variables) (suc k) x value at name =
    ap (λ (found : Option ℕ). cond (bytes_eq name variable.name) (Some zero) (option_map suc found)) (place-set variables k x value at name)

pub differ-set : (variables : List NamedValue) (k : ℕ) (x : NamedValue) (value : Value) → x ≡ get_or variables k x
    → NamesDiffer variables → NamesDiffer (set variables k (with_value x value))
differ-set [] k x value at differ = tt
differ-set (variable ∷ variables) zero x value at differ =
    (ap (λ (v : NamedValue). place_named variables v.name) at ∙ differ.0, differ.1)
differ-set (variable ∷ variables) (suc k) x value at differ =
    (place-set variables k x value at variable.name ∙ differ.0, differ-set variables k x value at differ.1)

set_at : (variables : List NamedValue) (name : List ℕ) (variable : NamedValue) (value : Value) (b : Bool) (found : Option ℕ) (k : ℕ) (x : NamedValue)
    → cond b (Some zero) (option_map suc found) ≡ Some k → x ≡ get_or (variable ∷ variables) k x
    → ((j : ℕ) → found ≡ Some j → x ≡ get_or variables j x → with_value_of name value variables ≡ Some (set variables j (with_value x value)))
    → cond b (Some (with_value variable value ∷ variables)) (option_map (λ others. variable ∷ others) (with_value_of name value variables))
    ≡ Some (set (variable ∷ variables) k (with_value x value))
set_at variables name variable value true found zero x is at later = ap (λ (v : NamedValue). Some (with_value v value ∷ variables)) (sym at)
set_at variables name variable value true found (suc k) x is at later = absurd (cc)
set_at variables name variable value false None k x is at later = absurd (cc)
set_at variables name variable value false (Some j) zero x is at later = absurd (cc)
set_at variables name variable value false (Some j) (suc k) x is at later =
    let here : Some j ≡ Some k = cc in ap (option_map (λ (others : List NamedValue). variable ∷ others)) (later k here at)

-- the variable that stands there gets the value
pub value_set : (variables : List NamedValue) (name : List ℕ) (value : Value) (k : ℕ) (x : NamedValue) → place_named variables name ≡ Some k
    → x ≡ get_or variables k x → with_value_of name value variables ≡ Some (set variables k (with_value x value))
value_set [] name value k x is at = absurd (cc)
value_set (variable ∷ variables) name value k x is at =
    set_at variables name variable value (bytes_eq name variable.name) (place_named variables name) k x is at (λ j here. value_set variables name value j x here)

unset_at : (variables : List NamedValue) (first : List NamedValue) (variable : NamedValue) (b : Bool) (found : Option ℕ) (changed : Option (List NamedValue))
    → cond b (Some zero) (option_map suc found) ≡ None → (found ≡ None → changed ≡ None)
    → cond b (Some first) (option_map (λ others. variable ∷ others) changed) ≡ None
unset_at variables first variable true found changed is later = absurd (cc)
unset_at variables first variable false None changed is later = ap (option_map (λ (others : List NamedValue). variable ∷ others)) (later refl)
unset_at variables first variable false (Some j) changed is later = absurd (cc)

pub no_value_set : (variables : List NamedValue) (name : List ℕ) (value : Value) → place_named variables name ≡ None → with_value_of name value variables ≡ None
no_value_set [] name value is = refl
no_value_set (variable ∷ variables) name value is =
    unset_at variables (with_value variable value ∷ variables) variable (bytes_eq name variable.name) (place_named variables name) (with_value_of name value variables) is
    (no_value_set variables name value)

-- ---- the last of a list

pub split_last : {A : Type 0} (xs : List A) (k : ℕ) (x : A) → suc k ≡ length xs → x ≡ get_or xs k x → xs ≡ take k xs ++ x ∷ []
split_last [] k x last at = absurd (cc)
split_last {A} (y ∷ []) zero x last at = ap (λ (z : A). z ∷ []) (sym at)
split_last (y ∷ z ∷ zs) zero x last at = absurd (cc)
split_last {A} (y ∷ ys) (suc k) x last at = ap (λ (zs : List A). y ∷ zs) (split_last ys k x (omega (arith, last)) at)
