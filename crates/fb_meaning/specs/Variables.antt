-- The variables of a body: no two have one name.
use Rattle.std.specs.Prelude.{ℕ, if◌then◌else◌, bytes_eq, is_some, List, [], ◌∷◌, ◌++◌, Option, Some, None}
use Rattle.std.specs.Option.{option_map}
use Rattle.fb_base.specs.declared.value.Value.{Value}
use Rattle.fb_syntax.specs.Trees.{Parameter}
use Rattle.fb_meaning.specs.Evaluations.{NamedValue}

-- the value of the variable with this name
abbrev pub value_named : List NamedValue → List ℕ → Option Value
value_named [] name = None
value_named (variable ∷ variables) name = if bytes_eq name variable.name then Some variable.value else value_named variables name

-- one variable more; none where its name is taken
abbrev pub with_variable : List ℕ → Value → List NamedValue → Option (List NamedValue)
with_variable name value variables =
    if is_some (value_named variables name) then None else Some (variables ++ record { name = name; value = value } ∷ [])

-- the variable with this name has another value; none where there is none
abbrev pub with_value_of : List ℕ → Value → List NamedValue → Option (List NamedValue)
with_value_of name value [] = None
with_value_of name value (variable ∷ variables) =
    if bytes_eq name variable.name then Some (record { name = variable.name; value = value } ∷ variables)
    else option_map (λ others. variable ∷ others) (with_value_of name value variables)

-- each parameter is a variable of its body
abbrev pub parameters_with : List Parameter → List Value → List NamedValue
parameters_with [] values = []
parameters_with (param ∷ params) [] = []
parameters_with (param ∷ params) (value ∷ values) = record { name = param.name; value = value } ∷ parameters_with params values
