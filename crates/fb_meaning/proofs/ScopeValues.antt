-- The variables of a scope, with their values.
use Rattle.std.specs.Prelude.{◌≡◌, ◌↔◌, ℕ, Bool, true, false, bytes_eq, is_some, if◌then◌else◌, List, [], ◌∷◌, ◌++◌, take, length, Option, Some, None}
use Rattle.std.specs.Option.{option_map}
use Rattle.std.proofs.Common.{refl, sym, ap, ◌∙◌, subst, arith}
use Rattle.fb_base.specs.declared.kind.Kind.{Kind}
use Rattle.fb_base.specs.declared.value.Value.{Value}
use Rattle.fb_base.specs.Values.{HasKind}
use Rattle.fb_check.specs.Accepted.{Variables, with_variable as and_variable}
use Rattle.fb_check.specs.Scopes.{Scope, kind_named}
use Rattle.fb_check.specs.declared.binding.Binding.{Binding}
use Rattle.fb_check.proofs.ScopeLaws.{agrees-declare}
use Rattle.fb_meaning.specs.Evaluations.{NamedValue}
use Rattle.fb_meaning.specs.Kinds.{AreOfScope, in_scope}
use Rattle.fb_meaning.specs.Variables.{value_named, with_variable, with_value_of}

abbrev pub binding_of : List ℕ → Kind → Binding
binding_of name kind = record { name = name; kind = kind }

abbrev pub named : List ℕ → Value → NamedValue
named name v = record { name = name; value = v }

-- what is declared is in the scope, and nothing else
abbrev pub Declares : Scope → Variables → Type 0
Declares scope declared = (name : List ℕ) (kind : Kind) → declared name kind ↔ in_scope scope name kind

pub as_long : (scope : Scope) (vs : List NamedValue) → AreOfScope scope vs → length vs ≡ length scope
as_long [] [] h = refl
as_long [] (x ∷ vs) h = absurd h
as_long (b ∷ scope) [] h = absurd h
as_long (b ∷ scope) (x ∷ vs) h = let rest = as_long scope vs h.2 in omega (arith, rest)

pub front_of_scope : (scope more : Scope) (vs : List NamedValue) → AreOfScope (scope ++ more) vs → AreOfScope scope (take (length scope) vs)
front_of_scope [] more vs h = tt
front_of_scope (b ∷ scope) more [] h = absurd h
front_of_scope (b ∷ scope) more (x ∷ vs) h = (h.0, h.1, front_of_scope scope more vs h.2)

-- a variable of the scope has a value of its kind
pub record HasValue (vs : List NamedValue) (name : List ℕ) (kind : Kind) : Type 0 where
  pub value : Value
  pub there : value_named vs name ≡ Some value
  pub fits : HasKind value kind

module _ (name : List ℕ) where
  value_there : (scope : Scope) (vs : List NamedValue) (kind : Kind) → AreOfScope scope vs → kind_named scope name ≡ Some kind → HasValue vs name kind
  value_there [] vs kind h e = absurd (cc)
  value_there (b ∷ scope) [] kind h e = absurd h
  value_there (b ∷ scope) (x ∷ vs) kind h e =
      by_name (bytes_eq name b.name) refl (ap (bytes_eq name) h.0) e (value_there scope vs kind h.2)
    where
      by_name : (here : Bool) → bytes_eq name b.name ≡ here → bytes_eq name x.name ≡ bytes_eq name b.name → (if here then Some b.kind else kind_named scope name) ≡ Some kind
          → (kind_named scope name ≡ Some kind → HasValue vs name kind) → HasValue (x ∷ vs) name kind
      by_name true is same found later = record {
        value = x.value;
        there = ap (λ c. if c then Some x.value else value_named vs name) (same ∙ is);
        fits = let kinds : b.kind ≡ kind = cc in subst (HasKind x.value) kinds h.1;
      }
      by_name false is same found later =
          let rest = later found in
          record {
            value = rest.value;
            there = ap (λ c. if c then Some x.value else value_named vs name) (same ∙ is) ∙ rest.there;
            fits = rest.fits;
          }

  none_there : (scope : Scope) (vs : List NamedValue) → AreOfScope scope vs → value_named vs name ≡ None → kind_named scope name ≡ None
  none_there [] vs h e = refl
  none_there (b ∷ scope) [] h e = absurd h
  none_there (b ∷ scope) (x ∷ vs) h e = by_name (bytes_eq name x.name) refl (ap (bytes_eq name) h.0) e (none_there scope vs h.2)
    where
      by_name : (here : Bool) → bytes_eq name x.name ≡ here → bytes_eq name x.name ≡ bytes_eq name b.name → (if here then Some x.value else value_named vs name) ≡ None
          → (value_named vs name ≡ None → kind_named scope name ≡ None) → kind_named (b ∷ scope) name ≡ None
      by_name true is same found later = absurd (cc)
      by_name false is same found later = ap (λ c. if c then Some b.kind else kind_named scope name) (sym same ∙ is) ∙ later found

pub scope_value : (scope : Scope) (vs : List NamedValue) (name : List ℕ) (kind : Kind) → AreOfScope scope vs → kind_named scope name ≡ Some kind → HasValue vs name kind
scope_value scope vs name kind = value_there name scope vs kind

-- ---- one variable more

and_value : (scope : Scope) (vs : List NamedValue) (name : List ℕ) (v : Value) (kind : Kind) → AreOfScope scope vs → HasKind v kind
    → AreOfScope (scope ++ binding_of name kind ∷ []) (vs ++ named name v ∷ [])
and_value [] [] name v kind h k = (refl, k, tt)
and_value [] (x ∷ vs) name v kind h k = absurd h
and_value (b ∷ scope) [] name v kind h k = absurd h
and_value (b ∷ scope) (x ∷ vs) name v kind h k = (h.0, h.1, and_value scope vs name v kind h.2 k)

-- a variable that could be declared was new
pub record IsAdded (scope : Scope) (name : List ℕ) (kind : Kind) (vs : List NamedValue) : Type 0 where
  pub new : kind_named scope name ≡ None
  pub hold : AreOfScope (scope ++ binding_of name kind ∷ []) vs

pub added : (scope : Scope) (vs us : List NamedValue) (name : List ℕ) (v : Value) (kind : Kind) → AreOfScope scope vs → HasKind v kind → with_variable name v vs ≡ Some us → IsAdded scope name kind us
added scope vs us name v kind h k = by_place (value_named vs name) refl
  where
    by_place : (found : Option Value) → value_named vs name ≡ found → (if is_some found then None else Some (vs ++ named name v ∷ [])) ≡ Some us → IsAdded scope name kind us
    by_place None is e =
        let same : vs ++ named name v ∷ [] ≡ us = cc in
        record { new = none_there name scope vs h is; hold = subst (AreOfScope (scope ++ binding_of name kind ∷ [])) same (and_value scope vs name v kind h k) }
    by_place (Some found) is e = absurd (cc)

pub declares_more : (scope : Scope) (declared : Variables) (name : List ℕ) (kind : Kind) (OfKind : Kind → Type 0) → Declares scope declared → kind_named scope name ≡ None
    → OfKind kind → ((other : Kind) → OfKind other → other ≡ kind) → Declares (scope ++ binding_of name kind ∷ []) (and_variable name OfKind declared)
declares_more scope declared name kind OfKind h new this only =
    let agrees = agrees-declare scope declared (record { found = λ n k. (h n k).1; there = λ n k. (h n k).0 }) name kind new OfKind this only in
    λ n k. (agrees.there n k, agrees.found n k)

-- ---- another value

pub assigned : (scope : Scope) (vs us : List NamedValue) (name : List ℕ) (v : Value) (kind : Kind) → AreOfScope scope vs → kind_named scope name ≡ Some kind → HasKind v kind
    → with_value_of name v vs ≡ Some us → AreOfScope scope us
assigned scope [] us name v kind h e k w = absurd (cc)
assigned [] (x ∷ vs) us name v kind h e k w = absurd h
assigned (b ∷ scope) (x ∷ vs) us name v kind h e k w =
    by_name (bytes_eq name b.name) (ap (bytes_eq name) h.0) e w (λ rest found is. assigned scope vs rest name v kind h.2 found k is)
  where
    later : (rest : Option (List NamedValue)) → with_value_of name v vs ≡ rest → option_map (λ others. x ∷ others) rest ≡ Some us
        → ((others : List NamedValue) → with_value_of name v vs ≡ Some others → AreOfScope scope others) → AreOfScope (b ∷ scope) us
    later None is e hold = absurd (cc)
    later (Some others) is e hold = let same : x ∷ others ≡ us = cc in subst (AreOfScope (b ∷ scope)) same (h.0, h.1, hold others is)

    by_name : (here : Bool) → bytes_eq name x.name ≡ here → (if here then Some b.kind else kind_named scope name) ≡ Some kind
        → (if bytes_eq name x.name then Some (named x.name v ∷ vs) else option_map (λ others. x ∷ others) (with_value_of name v vs)) ≡ Some us
        → ((others : List NamedValue) → kind_named scope name ≡ Some kind → with_value_of name v vs ≡ Some others → AreOfScope scope others) → AreOfScope (b ∷ scope) us
    by_name true is found w hold =
        let put : Some (named x.name v ∷ vs) ≡ Some us = sym (ap (λ c. if c then Some (named x.name v ∷ vs) else option_map (λ others. x ∷ others) (with_value_of name v vs)) is) ∙ w in
        let same : named x.name v ∷ vs ≡ us = cc in
        let kinds : b.kind ≡ kind = cc in
        subst (AreOfScope (b ∷ scope)) same (h.0, subst (HasKind v) (sym kinds) k, h.2)
    by_name false is found w hold =
        let put = sym (ap (λ c. if c then Some (named x.name v ∷ vs) else option_map (λ others. x ∷ others) (with_value_of name v vs)) is) ∙ w in
        later (with_value_of name v vs) refl put (λ others e. hold others found e)
