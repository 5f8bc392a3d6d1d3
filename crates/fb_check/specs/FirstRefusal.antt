-- The first rule that a source breaks, in the order in which the rules are tried.
use Rattle.std.specs.Prelude.{◌≡◌, ℕ, suc, Bool, true, false, bytes_eq, List, [], ◌∷◌, ◌++◌, slice_get, option_map, Option, Some, None, Result, Ok, Err}
use Rattle.std.specs.List.{list_any, filter_map}
use Rattle.fb_base.specs.declared.method.MethodName.{MethodName}
use Rattle.fb_graph.specs.declared.cycle.Cycle.{Cycle}
use Rattle.fb_graph.specs.FirstCycle.{first_cycle}
use Rattle.fb_syntax.specs.Trees.{Parameter, MethodTree, ServiceTree, ServicesTree, TestTree, Statements}
use Rattle.fb_check.specs.declared.owner.Owner.TheVariants as owner
use Rattle.fb_check.specs.declared.error.CheckError.{CheckError}
use Rattle.fb_check.specs.declared.error.CheckError.TheVariants as errors
use Rattle.fb_check.specs.declared.error.CheckRule.{CheckRule}
use Rattle.fb_check.specs.declared.error.CheckRule.TheVariants.{DuplicateName, MissingEnd, TooDeepCalls, Cycle as CycleOf}
use Rattle.fb_check.specs.declared.place.Place.{Place}
use Rattle.fb_check.specs.declared.signature.Signature.{Signature}
use Rattle.fb_base.specs.Results.{◌>>=◌}
use Rattle.fb_check.specs.Scopes.{Scope, with_parameters}
use Rattle.fb_check.specs.declared.declarations.Declarations.{Declarations}
use Rattle.fb_check.specs.Declarations.{declarations_of}
use Rattle.fb_check.specs.ExpressionKinds.{Context}
use Rattle.fb_check.specs.Walking.{Refusal}
use Rattle.fb_check.specs.StatementChecks.{statements_check}
use Rattle.fb_check.specs.Ends.{block_ends}
use Rattle.fb_check.specs.Calls.{graph_of, first_deep}

-- nothing is refused, or the first refusal
abbrev pub Checked : Type 0
Checked = Result (Unit {0}) Refusal

-- what was returned is what is found, unless memory ran out
abbrev pub Tells : {A : Type 0} → Result A CheckError → Checked → Type 0
Tells (Ok _) found = found ≡ Ok tt
Tells (Err (errors.Refused place rule)) found = found ≡ Err (record { place = place; rule = rule })
Tells (Err errors.Memory) found = Unit {0}

abbrev pub refusal_in : Checked → Option Refusal
refusal_in (Ok _) = None
refusal_in (Err refusal) = Some refusal

-- ---- the names, in source order: each differs from the earlier ones of its sort

abbrev pub duplicate_at : ℕ → ℕ → Refusal
duplicate_at s m = record { place = record { service = s; method = m; statement = 0 }; rule = DuplicateName }

-- a name that is there already is refused
abbrev pub duplicate_if : Bool → ℕ → ℕ → Checked
duplicate_if true s m = Err (duplicate_at s m)
duplicate_if false s m = Ok tt

abbrev pub new_name : List (List ℕ) → List ℕ → ℕ → ℕ → Checked
new_name earlier name s m = duplicate_if (list_any (bytes_eq name) earlier) s m

unfoldable pub parameters_named : ℕ → ℕ → List (List ℕ) → List Parameter → Checked
parameters_named s m earlier [] = Ok tt
parameters_named s m earlier (param ∷ params) = do
  _ ← new_name earlier param.name s m
  parameters_named s m (earlier ++ param.name ∷ []) params

unfoldable pub methods_named : ℕ → ℕ → List (List ℕ) → List MethodTree → Checked
methods_named s m earlier [] = Ok tt
methods_named s m earlier (method ∷ methods) = do
  _ ← new_name earlier method.name s m
  _ ← parameters_named s m [] method.params
  methods_named s (suc m) (earlier ++ method.name ∷ []) methods

unfoldable pub services_named : ℕ → List (List ℕ) → List ServiceTree → Checked
services_named s earlier [] = Ok tt
services_named s earlier (service ∷ services) = do
  _ ← new_name earlier service.name s 0
  _ ← methods_named s 1 [] service.methods
  services_named (suc s) (earlier ++ service.name ∷ []) services

-- ---- the bodies, in source order

abbrev pub body_check : Context → Scope → Statements → Checked
body_check about scope body = do
  _ ← statements_check about false body (record { scope = scope; number = 0 })
  Ok tt

-- a method whose block doesn't end is refused
abbrev pub missing_end_unless : ℕ → ℕ → Bool → Checked
missing_end_unless s m true = Ok tt
missing_end_unless s m false = Err (record { place = record { service = s; method = m; statement = 0 }; rule = MissingEnd })

unfoldable pub method_check : Declarations → ℕ → ℕ → MethodTree → Checked
method_check declared s m method = do
  _ ← body_check (record { declared = declared; owner = owner.Method method.gives; service = s; method = m }) (with_parameters [] method.params) method.body
  missing_end_unless s m (block_ends method.body)

unfoldable pub methods_check : Declarations → ℕ → ℕ → List MethodTree → Checked
methods_check declared s m [] = Ok tt
methods_check declared s m (method ∷ methods) = do
  _ ← method_check declared s m method
  methods_check declared s (suc m) methods

unfoldable pub services_check : Declarations → ℕ → List ServiceTree → Checked
services_check declared s [] = Ok tt
services_check declared s (service ∷ services) = do
  _ ← methods_check declared s 1 service.methods
  services_check declared (suc s) services

-- ---- the calls

-- where a method stands
abbrev pub place_of : Option Signature → Place
place_of (Some signature) = record { service = signature.service; method = signature.method; statement = 0 }
place_of None = record { service = 0; method = 0; statement = 0 }

-- the names of methods by number
abbrev pub names_of : Declarations → List ℕ → List MethodName
names_of declared = filter_map (λ m. option_map (λ signature. signature.name) (slice_get declared.methods m))

-- a rule that is broken at a method, by its number
abbrev pub refused_at : Declarations → ℕ → CheckRule → Checked
refused_at declared m rule = Err (record { place = place_of (slice_get declared.methods m); rule = rule })

-- no chain is too deep, or this is the first method with one
abbrev pub deep_check : Declarations → Option ℕ → Checked
deep_check declared None = Ok tt
deep_check declared (Some m) = refused_at declared m TooDeepCalls

-- a cycle goes before chains that are too deep
abbrev pub cycle_check : Declarations → Option Cycle → Option ℕ → Checked
cycle_check declared (Some cycle) deep = refused_at declared cycle.first (CycleOf (names_of declared (cycle.first ∷ cycle.through)))
cycle_check declared None deep = deep_check declared deep

abbrev pub calls_check : ServicesTree → Checked
calls_check tree = cycle_check (declarations_of tree) (first_cycle (graph_of tree)) (first_deep (graph_of tree))

-- ---- the whole

-- first the names, then the bodies, then the calls
unfoldable pub source_check : ServicesTree → Checked
source_check tree = do
  _ ← services_named 1 [] tree.services
  _ ← services_check (declarations_of tree) 1 tree.services
  calls_check tree

-- of a test of these services
unfoldable pub test_check : ServicesTree → TestTree → Checked
test_check tree test = body_check (record { declared = declarations_of tree; owner = owner.Test; service = 0; method = 0 }) [] test.body

abbrev pub first_refusal : ServicesTree → Option Refusal
first_refusal tree = refusal_in (source_check tree)

abbrev pub first_refusal_of_test : ServicesTree → TestTree → Option Refusal
first_refusal_of_test tree test = refusal_in (test_check tree test)
