-- What services say of each method.
use Rattle.std.specs.Prelude.{◌≡◌, ℕ, zero, suc, List, map, flat_map, slice_get, option_and_then, Contains, Option, Some, None}
use Rattle.fb_base.specs.declared.kind.Kind.{Kind}
use Rattle.fb_base.specs.declared.method.MethodName.{MethodName}
use Rattle.fb_syntax.specs.Trees.{MethodTree, ServiceTree, ServicesTree, TestTree}
use Rattle.fb_check.specs.declared.signature.Signature.{Signature}
use Rattle.fb_check.specs.Declarations.{declarations_of}
use Rattle.fb_check.specs.Sites.{sites, callee_number, callee_numbers}

-- the methods of all services, in source order: each is numbered by its place, from 0
abbrev pub methods_of : ServicesTree → List MethodTree
methods_of tree = flat_map (λ service. service.methods) tree.services

abbrev pub method_at : ServicesTree → ℕ → Option MethodTree
method_at tree m = slice_get (methods_of tree) m

-- its name, where it stands, and the kinds that it takes and gives
abbrev pub signature_at : ServicesTree → ℕ → Option Signature
signature_at tree m = slice_get (declarations_of tree).methods m

-- the kind that each method gives
abbrev pub kinds_given : ServicesTree → List Kind
kinds_given tree = map (λ method. method.gives) (methods_of tree)

-- the callees of each method, site by site
abbrev pub callees_of : ServicesTree → List (List (Option ℕ))
callees_of tree = map (λ method. callee_numbers (declarations_of tree) (sites method.body)) (methods_of tree)

-- an item by its number, counted from 1
abbrev pub item_numbered : {A : Type 0} → List A → ℕ → Option A
item_numbered xs zero = None
item_numbered xs (suc k) = slice_get xs k

-- the method with this number is one of the service at this position, counted from 1, and they have this name
pub record IsMethodAt (tree : ServicesTree) (m position : ℕ) (name : MethodName) : Type 0 where
  pub service : ServiceTree
  pub method : MethodTree
  pub placed : item_numbered tree.services position ≡ Some service
  pub numbered : method_at tree m ≡ Some method
  pub has_method : Contains service.methods method
  pub service_named : service.name ≡ name.service
  pub method_named : method.name ≡ name.method

-- whom a call site of a method calls, if the body has a site with this number
abbrev pub site_at : ServicesTree → ℕ → ℕ → Option MethodName
site_at tree m site = option_and_then (λ method. item_numbered (sites method.body) site) (method_at tree m)

-- the number of the method that is called there
abbrev pub callee_at : ServicesTree → ℕ → ℕ → Option ℕ
callee_at tree m site = option_and_then (callee_number (declarations_of tree)) (site_at tree m site)

-- the same for a site of a test
abbrev pub test_site_at : TestTree → ℕ → Option MethodName
test_site_at test site = item_numbered (sites test.body) site

abbrev pub test_callee_at : ServicesTree → TestTree → ℕ → Option ℕ
test_callee_at tree test site = option_and_then (callee_number (declarations_of tree)) (test_site_at test site)
