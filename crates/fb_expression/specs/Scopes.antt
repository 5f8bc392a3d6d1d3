-- How variables in scope change.
use Rattle.std.specs.Prelude.{◌≡◌, ℕ, zero, suc, if◌then◌else◌, Bool, true, false, bytes_eq, List, [], ◌∷◌, Option, Some, None, Result, Ok, Err}
use Rattle.std.specs.Option.{option_map}
use Rattle.std.specs.declared.alloc.AllocError.{AllocError}
use Rattle.fb_base.specs.declared.value.Value.{Value}
use Rattle.fb_meaning.specs.Evaluations.{NamedValue}
use Rattle.fb_meaning.specs.Variables.{with_variable, with_value_of}

-- a variable is declared where its name is new, and else nothing changes
abbrev pub Declares : List ℕ → Value → List NamedValue → List NamedValue → Result Bool AllocError → Type 0
Declares name value before after (Ok true) = with_variable name value before ≡ Some after
Declares name value before after (Ok false) = (with_variable name value before ≡ None) × (after ≡ before)
Declares name value before after (Err _) = after ≡ before

-- a variable gets another value where there is one with this name, and else nothing changes
abbrev pub Assigns : List ℕ → Value → List NamedValue → List NamedValue → Bool → Type 0
Assigns name value before after true = with_value_of name value before ≡ Some after
Assigns name value before after false = (with_value_of name value before ≡ None) × (after ≡ before)

-- where the variable with this name stands, from 0
abbrev pub place_named : List NamedValue → List ℕ → Option ℕ
place_named [] name = None
place_named (variable ∷ variables) name = if bytes_eq name variable.name then Some zero else option_map suc (place_named variables name)

-- no two variables have one name
abbrev pub NamesDiffer : List NamedValue → Type 0
NamesDiffer [] = Unit {0}
NamesDiffer (variable ∷ variables) = (place_named variables variable.name ≡ None) × NamesDiffer variables
