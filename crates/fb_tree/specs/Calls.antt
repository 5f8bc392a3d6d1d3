-- The calls of a run, each at its index, and those that were injected.
use Rattle.std.specs.Prelude.{ℕ, ◌+◌, ◌==◌, Option, Some, None, List, [], ◌∷◌, ◌++◌, map, filter_map, if◌then◌else◌}
use Rattle.std.specs.Option.{option_map}
use Rattle.fb_base.specs.declared.method.MethodId.{MethodId}
use Rattle.fb_base.specs.declared.reply.Reply.{Reply}
use Rattle.fb_index.specs.Entry.{Occurrence}
use Rattle.fb_index.specs.declared.fault.Fault.{Fault}
use Rattle.fb_tree.specs.declared.asked.Asked.{Asked}
use Rattle.fb_tree.specs.declared.visit.Visit.{Visit}
use Rattle.fb_tree.specs.Runs.{Tree, Invocation, CallList, NoCalls, AndCall, How, Faulted, Ran, Known, TestRun}

-- how many of the calls were made from a site
abbrev pub calls_at : ℕ → CallList → ℕ
calls_at site NoCalls = 0
calls_at site (AndCall before asked how) = calls_at site before + (if asked.entry.site == site then 1 else 0)

-- the reply that was injected
abbrev pub fault_of : Reply → How → Option Reply
fault_of reply Faulted = Some reply
fault_of reply (Ran tree) = None
fault_of reply (Known steps injected) = None

-- a call of a run: its index, its request and reply, and the reply once more where it was injected
pub record PlacedCall : Type 0 where
  pub index : List Occurrence
  pub asked : Asked
  pub fault : Option Reply

abbrev pub call_at : List Occurrence → Asked → How → PlacedCall
call_at index asked how = record { index = index; asked = asked; fault = fault_of asked.reply how }

-- the calls of a body at this index and all calls below them, in the order in which they begin
unfoldable mutual
  pub calls_within : List Occurrence → CallList → List PlacedCall
  calls_within index NoCalls = []
  calls_within index (AndCall before asked how) =
      calls_within index before ++ call_at (index ++ asked.entry ∷ []) asked how
      ∷ calls_below (index ++ asked.entry ∷ []) how

  pub calls_below : List Occurrence → How → List PlacedCall
  calls_below index Faulted = []
  calls_below index (Ran (Invocation method args calls reply steps)) = calls_within index calls
  calls_below index (Known steps injected) = []

abbrev pub calls_of : TestRun → List PlacedCall
calls_of run = calls_within [] run.calls

-- what a visit tells of a call
abbrev pub visit_of : PlacedCall → Visit
visit_of call = record { index = call.index; callee = call.asked.callee; fault = call.fault }

abbrev pub visits_of : TestRun → List Visit
visits_of run = map visit_of (calls_of run)

abbrev pub injection_of : Visit → Option Fault
injection_of visit = option_map (λ reply. record { index = visit.index; reply = reply }) visit.fault

-- the calls that were injected, as the faults of a plan
abbrev pub injections_of : TestRun → List Fault
injections_of run = filter_map injection_of (visits_of run)

-- the callees of the injected calls, in the order in which they begin; a known call has its own list
unfoldable mutual
  pub injected_of : Tree → List MethodId
  injected_of (Invocation method args calls reply steps) = injected_in calls

  pub injected_in : CallList → List MethodId
  injected_in NoCalls = []
  injected_in (AndCall before asked how) = injected_in before ++ injected_by asked.callee how

  pub injected_by : MethodId → How → List MethodId
  injected_by callee Faulted = callee ∷ []
  injected_by callee (Ran tree) = injected_of tree
  injected_by callee (Known steps injected) = injected

-- no call was known: each was injected or has its tree
unfoldable mutual
  pub IsWhole : CallList → Type 0
  IsWhole NoCalls = Unit {0}
  IsWhole (AndCall before asked how) = IsWhole before × IsWholeBelow how

  pub IsWholeBelow : How → Type 0
  IsWholeBelow Faulted = Unit {0}
  IsWholeBelow (Ran (Invocation method args calls reply steps)) = IsWhole calls
  IsWholeBelow (Known steps injected) = ⊥
