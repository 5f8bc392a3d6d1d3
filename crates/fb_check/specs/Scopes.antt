-- The variables that are in scope.
use Rattle.std.specs.Prelude.{ℕ, ◌≡◌, if◌then◌else◌, Bool, true, false, is_some, IsSome, bytes_eq, List, [], ◌∷◌, ◌++◌, Option, Some, None, Result, Ok, Err}
use Rattle.std.specs.declared.alloc.AllocError.{AllocError}
use Rattle.fb_base.specs.declared.kind.Kind.{Kind}
use Rattle.fb_syntax.specs.Trees.{Parameter}
use Rattle.fb_check.specs.declared.binding.Binding.{Binding}

-- from the first declared to the last
abbrev pub Scope : Type 0
Scope = List Binding

-- the kind of the variable with this name, if it is in scope
abbrev pub kind_named : Scope → List ℕ → Option Kind
kind_named [] name = None
kind_named (binding ∷ scope) name = if bytes_eq name binding.name then Some binding.kind else kind_named scope name

-- one variable more, where its name is new
abbrev pub with_binding : Scope → Binding → Scope
with_binding scope binding = if is_some (kind_named scope binding.name) then scope else scope ++ binding ∷ []

-- each parameter is a variable of its body
abbrev pub with_parameters : Scope → List Parameter → Scope
with_parameters scope [] = scope
with_parameters scope (param ∷ params) = with_parameters (with_binding scope (record { name = param.name; kind = param.kind })) params

-- a variable is declared where its name is new, and else nothing changes
abbrev pub Declares : Binding → Scope → Scope → Result Bool AllocError → Type 0
Declares binding before after (Ok true) = (kind_named before binding.name ≡ None) × (after ≡ before ++ binding ∷ [])
Declares binding before after (Ok false) = IsSome (kind_named before binding.name) × (after ≡ before)
Declares binding before after (Err _) = Unit {0}

-- no two variables have one name
abbrev pub NamesDiffer : Scope → Type 0
NamesDiffer [] = Unit {0}
NamesDiffer (binding ∷ scope) = (kind_named scope binding.name ≡ None) × NamesDiffer scope
