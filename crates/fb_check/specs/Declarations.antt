-- What a file of services declares, as far as a call needs to know it.
use Rattle.std.specs.Prelude.{ℕ, suc, Bool, ◌&&◌, is_some, bytes_eq, List, [], ◌∷◌, ◌++◌, map, find, Option, Some, None}
use Rattle.std.specs.List.{position_from}
use Rattle.fb_base.specs.declared.kind.Kind.{Kind}
use Rattle.fb_syntax.specs.Trees.{Parameter, MethodTree, ServiceTree, ServicesTree}
use Rattle.fb_check.specs.declared.signature.Signature.{Signature}
use Rattle.fb_check.specs.declared.declarations.Declarations.{Declarations}

abbrev pub kinds_of_parameters : List Parameter → List Kind
kinds_of_parameters = map (λ param. param.kind)

-- the signature of the m-th method of the s-th service
abbrev pub signature_of : List ℕ → ℕ → ℕ → MethodTree → Signature
signature_of service s m method = record {
  name = record { service = service; method = method.name };
  service = s;
  method = m;
  params = kinds_of_parameters method.params;
  gives = method.gives;
}

-- those of its methods from the m-th on
abbrev pub service_signatures : List ℕ → ℕ → ℕ → List MethodTree → List Signature
service_signatures service s m [] = []
service_signatures service s m (method ∷ methods) = signature_of service s m method ∷ service_signatures service s (suc m) methods

-- those of the services from the s-th on
abbrev pub signatures_from : ℕ → List ServiceTree → List Signature
signatures_from s [] = []
signatures_from s (service ∷ services) = service_signatures service.name s 1 service.methods ++ signatures_from (suc s) services

abbrev pub service_names : List ServiceTree → List (List ℕ)
service_names = map (λ service. service.name)

abbrev pub declarations_of : ServicesTree → Declarations
declarations_of tree = record { services = service_names tree.services; methods = signatures_from 1 tree.services }

-- ---- what is looked up by name

abbrev pub is_method : List ℕ → List ℕ → Signature → Bool
is_method service method signature = bytes_eq service signature.name.service && bytes_eq method signature.name.method

-- the method of a service, if there is one
abbrev pub callee_in : Declarations → List ℕ → List ℕ → Option Signature
callee_in declared service method = find (is_method service method) declared.methods

-- its number, from 0 over all services
abbrev pub number_in : Declarations → List ℕ → List ℕ → Option ℕ
number_in declared service method = position_from (is_method service method) 0 declared.methods

-- a service's position, from 1
abbrev pub service_in : Declarations → List ℕ → Option ℕ
service_in declared service = position_from (bytes_eq service) 1 declared.services

-- whether there is a service, and a method of it where one is named
abbrev pub is_declared : Declarations → List ℕ → Option (List ℕ) → Bool
is_declared declared service None = is_some (service_in declared service)
is_declared declared service (Some method) = is_some (callee_in declared service method)
