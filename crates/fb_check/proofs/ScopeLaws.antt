-- The scope of the check and the variables that it stands for.
use Rattle.std.proofs.Common.{◌≡◌, ℕ, Bool, true, false, cond, bytes_eq, List, [], ◌∷◌, ◌++◌, Option, Some, None, refl, sym, ap, ◌∙◌, subst, inl, inr, ◌⊎◌}
use Rattle.std.proofs.lemmas.Slice.Eq.{bytes_eq-Decides}
use Rattle.fb_base.specs.declared.kind.Kind.{Kind}
use Rattle.fb_check.specs.declared.binding.Binding.{Binding}
use Rattle.fb_check.specs.Scopes.{Scope, kind_named}
use Rattle.fb_check.specs.Accepted.{Variables, IsNew, with_variable}
use Rattle.fb_check.proofs.KindLaws.{Agrees}

named_later : (scope : Scope) (name : List ℕ) (kind other : Kind) (more : Scope) (b : Bool) → cond b (Some other) (kind_named scope name) ≡ Some kind
    → (kind_named scope name ≡ Some kind → kind_named (scope ++ more) name ≡ Some kind) → cond b (Some other) (kind_named (scope ++ more) name) ≡ Some kind
named_later scope name kind other more true is later = is
named_later scope name kind other more false is later = later is

-- a variable stays
pub kind_named-append : (scope more : Scope) (name : List ℕ) (kind : Kind) → kind_named scope name ≡ Some kind → kind_named (scope ++ more) name ≡ Some kind
kind_named-append [] more name kind is = absurd (cc)
kind_named-append (binding ∷ scope) more name kind is =
    named_later scope name kind binding.kind more (bytes_eq name binding.name) is (kind_named-append scope more name kind)

new_later : (scope : Scope) (name : List ℕ) (other : Kind) (last : Binding) (b : Bool) → cond b (Some other) (kind_named scope name) ≡ None
    → (kind_named scope name ≡ None → kind_named (scope ++ last ∷ []) name ≡ kind_named (last ∷ []) name)
    → cond b (Some other) (kind_named (scope ++ last ∷ []) name) ≡ kind_named (last ∷ []) name
new_later scope name other last true is later = absurd (cc)
new_later scope name other last false is later = later is

-- behind the others a variable is found where none of them has its name
pub kind_named-push : (scope : Scope) (name : List ℕ) (last : Binding) → kind_named scope name ≡ None → kind_named (scope ++ last ∷ []) name ≡ kind_named (last ∷ []) name
kind_named-push [] name last is = refl
kind_named-push (binding ∷ scope) name last is =
    new_later scope name binding.kind last (bytes_eq name binding.name) is (kind_named-push scope name last)

-- a scope of one variable
only_found : (name other : List ℕ) (kind found : Kind) (b : Bool) → bytes_eq other name ≡ b → cond b (Some kind) None ≡ Some found → (other ≡ name) × (found ≡ kind)
only_found name other kind found true same is = ((bytes_eq-Decides other name).0 same, cc)
only_found name other kind found false same is = absurd (cc)

only_there : (name other : List ℕ) (kind : Kind) → other ≡ name → kind_named (record { name = name; kind = kind } ∷ []) other ≡ Some kind
only_there name other kind same = ap (λ b. cond b (Some kind) None) ((bytes_eq-Decides other name).1 same)

-- ---- one variable more

module _ (scope : Scope) (variables : Variables) (agrees : Agrees scope variables) where
  pub new_name : (name : List ℕ) → kind_named scope name ≡ None → IsNew variables name
  new_name name none kind has = let there = agrees.there name kind has in absurd (cc)

  new_at : (name : List ℕ) → IsNew variables name → (found : Option Kind) → kind_named scope name ≡ found → kind_named scope name ≡ None
  new_at name new None is = is
  new_at name new (Some kind) is = absurd (new kind (agrees.found name kind is))

  pub name_new : (name : List ℕ) → IsNew variables name → kind_named scope name ≡ None
  name_new name new = new_at name new (kind_named scope name) refl

  module _ (name : List ℕ) (kind : Kind) (none : kind_named scope name ≡ None) (OfKind : Kind → Type 0) (this : OfKind kind) (only : (other : Kind) → OfKind other → other ≡ kind) where
    found_in : (other : List ℕ) (found : Kind) (before : Option Kind) → kind_named scope other ≡ before
        → kind_named (scope ++ record { name = name; kind = kind } ∷ []) other ≡ Some found → ((other ≡ name) × OfKind found) ⊎ variables other found
    found_in other found None is there =
        let last = only_found name other kind found (bytes_eq other name) refl (sym (kind_named-push scope other (record { name = name; kind = kind }) is) ∙ there) in
        inl (last.0, subst OfKind (sym last.1) this)
    found_in other found (Some known) is there =
        let stays = kind_named-append scope (record { name = name; kind = kind } ∷ []) other known is in
        inr (agrees.found other found (is ∙ sym stays ∙ there))

    there_in : (other : List ℕ) (found : Kind) → ((other ≡ name) × OfKind found) ⊎ variables other found
        → kind_named (scope ++ record { name = name; kind = kind } ∷ []) other ≡ Some found
    there_in other found (inl here) =
        kind_named-push scope other (record { name = name; kind = kind }) (ap (kind_named scope) here.0 ∙ none)
        ∙ only_there name other kind here.0 ∙ ap Some (sym (only found here.1))
    there_in other found (inr before) = kind_named-append scope (record { name = name; kind = kind } ∷ []) other found (agrees.there other found before)

    pub agrees-declare : Agrees (scope ++ record { name = name; kind = kind } ∷ []) (with_variable name OfKind variables)
    agrees-declare = record {
      found = λ other found is. found_in other found (kind_named scope other) refl is;
      there = there_in;
    }
