-- What stops when it is decided.
use Rattle.std.specs.Prelude.{◌≡◌, Bool, true, false, Option, Some, None, Result, Ok, Err}
use Rattle.fb_base.specs.declared.value.Value.{Value}
use Rattle.fb_base.specs.declared.value.Value.TheVariants as value
use Rattle.fb_base.specs.declared.operator.OpError.{OpError}
use Rattle.fb_base.specs.declared.operator.OpError.TheVariants.{Fault, Memory}
use Rattle.fb_meaning.specs.Expressions.{decided_by}

-- an operand decides, or the others do; or it is a fault whatever they are
abbrev pub Decides : Bool → Value → Result Bool OpError → Type 0
Decides deciding operand (Ok true) = (others : Option Value) → decided_by deciding operand others ≡ Some (value.Bool deciding)
Decides deciding operand (Ok false) = (others : Option Value) → decided_by deciding operand others ≡ others
Decides deciding operand (Err Fault) = (others : Option Value) → decided_by deciding operand others ≡ None
Decides deciding operand (Err Memory) = Unit {0}
