-- The kinds of variables by name, in a scope that grows and shrinks at its end.
use Rattle.std.proofs.Common.{◌≡◌, ℕ, Bool, true, false, cond, bytes_eq, List, [], ◌∷◌, ◌++◌, Option, Some, None, Result, Ok, Err, OnOk, is_err, refl, sym, ap, ◌∙◌}
use Rattle.std.proofs.lemmas.Slice.Eq.{bytes_eq-Decides}
use Rattle.fb_base.specs.declared.kind.Kind.{Kind}
use Rattle.fb_check.specs.declared.binding.Binding.{Binding}
use Rattle.fb_check.specs.Scopes.{Scope, kind_named, NamesDiffer}
use Rattle.fb_check.proofs.ScopeLaws.{kind_named-append, kind_named-push}

pub done : {A E : Type 0} (result : Result A E) (P : Type 0) → is_err result ≡ false → OnOk result P → P
done (Ok x) P ok p = p
done (Err e) P ok p = absurd (cc)

-- ---- names

other_at : (name : List ℕ) (kind : Kind) (found : Option Kind) (b : Bool) → cond b (Some kind) found ≡ None → (b ≡ false) × (found ≡ None)
other_at name kind found true none = absurd (cc)
other_at name kind found false none = (refl, none)

not_other : (name other : List ℕ) (b : Bool) → bytes_eq name other ≡ b → b ≡ false → (c : Bool) → bytes_eq other name ≡ c → c ≡ false
not_other name other b is no_match true back =
    let same = (bytes_eq-Decides other name).0 back in
    let equal = (bytes_eq-Decides name other).1 (sym same) in absurd (cc)
not_other name other b is no_match false back = refl

-- a name that isn't there
pub names_push : (scope : Scope) (last : Binding) → NamesDiffer scope → kind_named scope last.name ≡ None → NamesDiffer (scope ++ last ∷ [])
names_push [] last differ none = (refl, tt)
names_push (first ∷ scope) last differ none =
    let apart = other_at last.name first.kind (kind_named scope last.name) (bytes_eq last.name first.name) none in
    let back = not_other last.name first.name (bytes_eq last.name first.name) refl apart.0 (bytes_eq first.name last.name) refl in (
      kind_named-push scope first.name last differ.0 ∙ ap (λ b. cond b (Some last.kind) None) back,
      names_push scope last differ.1 apart.1,
    )

front_none : (scope : Scope) (name : List ℕ) (last : Binding) (found : Option Kind) → kind_named scope name ≡ found → kind_named (scope ++ last ∷ []) name ≡ None → kind_named scope name ≡ None
front_none scope name last None is none = is
front_none scope name last (Some kind) is none = absurd (let stays = kind_named-append scope (last ∷ []) name kind is in cc)

pub names_pop : (scope : Scope) (last : Binding) → NamesDiffer (scope ++ last ∷ []) → NamesDiffer scope × (kind_named scope last.name ≡ None)
names_pop [] last differ = (tt, refl)
names_pop (first ∷ scope) last differ =
    let rest = names_pop scope last differ.1 in
    let front = front_none scope first.name last (kind_named scope first.name) refl differ.0 in
    let apart = other_at first.name last.kind None (bytes_eq first.name last.name) (sym (kind_named-push scope first.name last front) ∙ differ.0) in
    let back = not_other first.name last.name (bytes_eq first.name last.name) refl apart.0 (bytes_eq last.name first.name) refl in
    ((front, rest.0), ap (λ b. cond b (Some first.kind) (kind_named scope last.name)) back ∙ rest.1)

-- ---- kinds by name

pushed : (scope : Scope) (name : List ℕ) (last : Binding) → kind_named scope last.name ≡ None → (found : Option Kind) → kind_named scope name ≡ found → (b : Bool) → bytes_eq name last.name ≡ b
    → kind_named (scope ++ last ∷ []) name ≡ cond b (Some last.kind) found
pushed scope name last none None is b same = kind_named-push scope name last is ∙ ap (λ c. cond c (Some last.kind) None) same
pushed scope name last none (Some kind) is true same =
    absurd (let equal = (bytes_eq-Decides name last.name).0 same in let wrong = sym is ∙ ap (kind_named scope) equal ∙ none in cc)
pushed scope name last none (Some kind) is false same = kind_named-append scope (last ∷ []) name kind is

-- the last variable is found by its name, and each other one as before
pub kind_named-pushed : (scope : Scope) (name : List ℕ) (last : Binding) → kind_named scope last.name ≡ None
    → kind_named (scope ++ last ∷ []) name ≡ cond (bytes_eq name last.name) (Some last.kind) (kind_named scope name)
kind_named-pushed scope name last none = pushed scope name last none (kind_named scope name) refl (bytes_eq name last.name) refl

popped : (scope : Scope) (name : List ℕ) (last : Binding) → kind_named scope last.name ≡ None → (b : Bool) → bytes_eq name last.name ≡ b
    → cond b None (kind_named (scope ++ last ∷ []) name) ≡ kind_named scope name
popped scope name last none true same = sym (ap (kind_named scope) ((bytes_eq-Decides name last.name).0 same) ∙ none)
popped scope name last none false same = kind_named-pushed scope name last none ∙ ap (λ b. cond b (Some last.kind) (kind_named scope name)) same

-- without the last variable no name finds it
pub kind_named-popped : (scope : Scope) (name : List ℕ) (last : Binding) → kind_named scope last.name ≡ None
    → cond (bytes_eq name last.name) None (kind_named (scope ++ last ∷ []) name) ≡ kind_named scope name
kind_named-popped scope name last none = popped scope name last none (bytes_eq name last.name) refl
