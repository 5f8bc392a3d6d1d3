-- Which plans a run meets, and by which plans a plan is extended.
use Rattle.std.specs.Prelude.{◌≡◌, ℕ, zero, suc, Some, None, List, [], ◌∷◌, ◌++◌, map, filter, filter_map, flat_map, Contains, if◌then◌else◌}
use Rattle.std.specs.Option.{option_map_or}
use Rattle.std.specs.List.{last_or}
use Rattle.fb_base.specs.declared.reply.Reply.{Reply}
use Rattle.fb_index.specs.Entry.{Occurrence}
use Rattle.fb_index.specs.Index.{same_index}
use Rattle.fb_index.specs.declared.fault.Fault.{Fault}
use Rattle.fb_tree.specs.Calls.{injection_of}
use Rattle.fb_tree.specs.declared.recorded.Record.{Record}
use Rattle.fb_tree.specs.declared.visit.Visit.{Visit}
use Rattle.fb_campaign.specs.Runs.{Went, Runs, Choices, is_between_services}

-- the calls that were injected, as the faults of a plan
abbrev pub injections_in : List Visit → List Fault
injections_in visits = filter_map injection_of visits

-- a run with this fuel comes to its end, injects exactly the plan, and each reply is a choice for its callee
pub record IsMet (runs : Runs) (choices : Choices) (fuel : ℕ) (plan : List Fault) : Type 0 where
  pub went : Went
  pub done : runs fuel plan ≡ Some went
  pub injected : injections_in went.visits ≡ plan
  pub chosen : (visit : Visit) (given : Reply) → Contains went.visits visit → visit.fault ≡ Some given →
      Contains (choices visit.callee) given

-- the calls that begin after the one at this index
abbrev pub begun_after : List Occurrence → List Visit → List Visit
begun_after index [] = []
begun_after index (visit ∷ visits) = if same_index visit.index index then visits else begun_after index visits

-- the calls that begin after the plan's last fault, all of them where it has none
abbrev pub begun_after_plan : List Fault → List Visit → List Visit
begun_after_plan plan visits = option_map_or (λ fault. begun_after fault.index visits) (last_or None plan) visits

-- the plan with each choice for this call at its end
abbrev pub extensions_at : Choices → List Fault → Visit → List (List Fault)
extensions_at choices plan visit =
    map (λ given. plan ++ record { index = visit.index; reply = given } ∷ []) (choices visit.callee)

-- those that services make; the test's own calls never fail
abbrev pub between_services : List Visit → List Visit
between_services visits = filter (λ visit. is_between_services visit.index) visits

-- the plans that add one fault after the plan's last one, by the calls of a run
abbrev pub extensions_of : Choices → List Visit → List Fault → List (List Fault)
extensions_of choices visits plan = flat_map (extensions_at choices plan) (between_services (begun_after_plan plan visits))

-- those by the calls of its own run, none where that is spent
abbrev pub extensions : Runs → Choices → ℕ → List Fault → List (List Fault)
extensions runs choices fuel plan = option_map_or (λ went. extensions_of choices went.visits plan) (runs fuel plan) []

-- the plans with so many faults
unfoldable pub level : Runs → Choices → ℕ → ℕ → List (List Fault)
level runs choices fuel zero = [] ∷ []
level runs choices fuel (suc count) = flat_map (extensions runs choices fuel) (level runs choices fuel count)

-- the plans with so many faults at most
unfoldable pub levels_to : Runs → Choices → ℕ → ℕ → List (List Fault)
levels_to runs choices fuel zero = level runs choices fuel zero
levels_to runs choices fuel (suc count) = levels_to runs choices fuel count ++ level runs choices fuel (suc count)

-- the plans of a campaign; each fault costs a unit of fuel
abbrev pub plans : Runs → Choices → ℕ → List (List Fault)
plans runs choices fuel = levels_to runs choices fuel fuel

-- none of its plans is spent
abbrev pub EachEnds : Runs → Choices → ℕ → Type 0
EachEnds runs choices fuel = (plan : List Fault) → Contains (plans runs choices fuel) plan → (went : Went) × (runs fuel plan ≡ Some went)

-- each record is one of these
abbrev pub AreAmong : List Record → List Record → Type 0
AreAmong records known = (item : Record) → Contains records item → Contains known item

-- these are all records of the runs of some plans, and maybe more
abbrev pub HaveRecordsOf : Runs → ℕ → List (List Fault) → List Record → Type 0
HaveRecordsOf runs fuel of_plans known =
    (plan : List Fault) (went : Went) → Contains of_plans plan → runs fuel plan ≡ Some went → AreAmong went.records known

-- these are all records of the runs of met plans, and maybe more
abbrev pub HaveRecordsOfMet : Runs → Choices → ℕ → List Record → Type 0
HaveRecordsOfMet runs choices fuel known =
    (plan : List Fault) (met : IsMet runs choices fuel plan) → AreAmong met.went.records known

-- these are all met plans, and maybe more
abbrev pub HaveMetPlans : Runs → Choices → ℕ → List (List Fault) → Type 0
HaveMetPlans runs choices fuel known = (plan : List Fault) → IsMet runs choices fuel plan → Contains known plan
