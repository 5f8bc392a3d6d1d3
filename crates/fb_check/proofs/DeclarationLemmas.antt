-- How many methods a service declares.
use Rattle.std.proofs.Common.{◌≡◌, ℕ, suc, List, [], ◌∷◌, length, refl, ap}
use Rattle.fb_syntax.specs.Trees.{MethodTree}
use Rattle.fb_check.specs.Declarations.{service_signatures}

pub length-service_signatures : (service : List ℕ) (s m : ℕ) (methods : List MethodTree) → length (service_signatures service s m methods) ≡ length methods
length-service_signatures service s m [] = refl
length-service_signatures service s m (method ∷ methods) = ap suc (length-service_signatures service s (suc m) methods)
