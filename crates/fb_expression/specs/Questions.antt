-- Of which methods a question asks.
use Rattle.std.specs.Prelude.{◌≡◌, ℕ, Bool, false, List, Option}
use Rattle.std.specs.List.{list_any}
use Rattle.std.specs.Option.{option_map_or}
use Rattle.fb_base.specs.declared.method.MethodId.{MethodId}
use Rattle.fb_syntax.specs.Trees.{ServicesTree}
use Rattle.fb_check.specs.Programs.{signature_at}
use Rattle.fb_meaning.specs.Expressions.{is_asked_for}

-- whether the method with this number is one of the service, and where a method is named that one
abbrev pub asks_for : ServicesTree → List ℕ → Option (List ℕ) → ℕ → Bool
asks_for services service method callee = option_map_or (is_asked_for service method) (signature_at services callee) false

-- the numbers are those of the callees: each test of a number finds one among both or in neither
abbrev pub HasCallees : List ℕ → List MethodId → Type 0
HasCallees numbers callees = (test : ℕ → Bool) → list_any test numbers ≡ list_any (λ callee. test callee.0) callees
