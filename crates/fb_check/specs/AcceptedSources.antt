-- Accepted sources.
use Rattle.std.specs.Prelude.{false, is_some, IsNone, refl}
use Rattle.std.specs.Coded.{Coded, Coded-set, coded_bool, code_by, coded×, ×_prop}
use base.Stored.{coded_sub}
use Rattle.std.proofs.Math.Logic.{∥∥₁_prop}
use Rattle.fb_syntax.specs.Trees.{ServicesTree, TestTree}
use Rattle.fb_syntax.specs.TreeCodes.{coded_services, coded_test}
use Rattle.fb_syntax.specs.Kept.{KeepsServicesLimits, KeepsTestLimits}
use Rattle.fb_check.specs.FirstRefusal.{first_refusal, first_refusal_of_test}

-- services that are accepted, and keep the limits of the language
pub record AcceptedServices : Type 0 where
  pub tree : ServicesTree
  pub accepted : IsNone (first_refusal tree)
  pub limits : ∥ KeepsServicesLimits tree ∥₁

-- a test that is accepted beside these services, which are accepted too, and keeps the limits
pub record AcceptedTest : Type 0 where
  pub services : ServicesTree
  pub services_accepted : IsNone (first_refusal services)
  pub tree : TestTree
  pub accepted : IsNone (first_refusal_of_test services tree)
  pub limits : ∥ KeepsTestLimits tree ∥₁

-- they are told apart by their trees
abbrev pub coded_accepted_services : Coded AcceptedServices
coded_accepted_services =
    code_by ((tree : ServicesTree) × (IsNone (first_refusal tree) × ∥ KeepsServicesLimits tree ∥₁))
    (coded_sub coded_services (λ tree. IsNone (first_refusal tree) × ∥ KeepsServicesLimits tree ∥₁) (λ tree. ×_prop (Coded-set coded_bool (is_some (first_refusal tree)) false) ∥∥₁_prop))
    (λ a. (a.tree, (a.accepted, a.limits)))
    (λ p. record { tree = p.0; accepted = p.1.0; limits = p.1.1 })
    (λ _. refl)

abbrev IsKept : ServicesTree × TestTree → Type 0
IsKept trees = IsNone (first_refusal trees.0) × (IsNone (first_refusal_of_test trees.0 trees.1) × ∥ KeepsTestLimits trees.1 ∥₁)

abbrev pub coded_accepted_test : Coded AcceptedTest
coded_accepted_test =
    code_by ((trees : ServicesTree × TestTree) × IsKept trees)
    (coded_sub (coded× coded_services coded_test) IsKept
    (λ trees. ×_prop (Coded-set coded_bool (is_some (first_refusal trees.0)) false)
    (×_prop (Coded-set coded_bool (is_some (first_refusal_of_test trees.0 trees.1)) false) ∥∥₁_prop)))
    (λ a. ((a.services, a.tree), (a.services_accepted, (a.accepted, a.limits))))
    (λ p. record { services = p.0.0; services_accepted = p.1.0; tree = p.0.1; accepted = p.1.1.0; limits = p.1.1.1 })
    (λ _. refl)
