-- What records tell of the runs of a plan.
use Rattle.std.specs.Prelude.{ℕ, Bool, List, Option, Some, None, if◌then◌else◌}
use Rattle.std.specs.List.{list_any, list_all}
use Rattle.fb_index.specs.declared.fault.Fault.{Fault as FaultOf}
use Rattle.fb_syntax.specs.Trees.{ServicesTree}
use Rattle.fb_check.specs.Programs.{kinds_given}
use Rattle.fb_tree.specs.Runs.{Tree}
use Rattle.fb_tree.specs.Records.{records_of, steps_of}
use Rattle.fb_tree.specs.Calls.{injected_of}
use Rattle.fb_tree.specs.Sameness.{same_record}
use Rattle.fb_tree.specs.declared.recorded.Record.{Record}
use Rattle.fb_transport.specs.Sources.{Source, plan_source}
use Rattle.fb_transport.specs.declared.decision.Decision.{Decision}
use Rattle.fb_transport.specs.declared.decision.Decision.TheVariants.{Fault, Known}
use Rattle.fb_meaning.specs.Bodies.{reply_of}
use Rattle.fb_meaning.specs.DecisionLaws.{IsTrueOnce}
use Rattle.fb_meaning.specs.Each.{HoldsOfEach}
use Rattle.fb_meaning.specs.Evaluations.{Evaluation, Spent, Missing, Done}
use Rattle.fb_meaning.specs.Meaning.{method_meaning}

-- each of the records is true of the services, with some fuel
abbrev pub AreTrueOf : ServicesTree → List Record → Type 0
AreTrueOf services records = HoldsOfEach (IsTrueOnce services) records

-- whether each item is among the records
abbrev pub are_recorded : List Record → List Record → Bool
are_recorded records items = list_all (λ item. list_any (same_record item) records) items

-- an evaluation is known where it is done and each of its invocations is recorded
abbrev pub known_of : List Record → Evaluation Tree ℕ → Option Decision
known_of records Spent = None
known_of records Missing = None
known_of records (Done tree left) =
    if are_recorded records (records_of tree) then Some (Known (reply_of tree) (steps_of tree) (injected_of tree)) else None

-- a fault, or else what is known
abbrev pub fault_or : Option Decision → Option Decision → Option Decision
fault_or (Some (Fault given)) known = Some (Fault given)
fault_or other known = known

-- the fault of the plan at an index, or else what is known of the callee's evaluation there under the plan
unfoldable pub stitched_source : ServicesTree → List Record → ℕ → List FaultOf → Source
stitched_source services records limit plan index callee args =
    fault_or (plan_source (kinds_given services) plan index callee args)
    (known_of records (method_meaning services (plan_source (kinds_given services) plan) limit (record { 0 = callee }) args index))

-- what a transport answers by
pub record Stitches : Type 0 where
  pub services : ServicesTree
  pub records : List Record
  pub limit : ℕ
  pub plan : List FaultOf
