-- Where two runs of one test part ways.
use Rattle.std.specs.Prelude.{◌≡◌, ◌⊎◌, ℕ, List, ◌∷◌, ◌++◌, Some}
use Rattle.fb_base.specs.declared.kind.Kind.{Kind}
use Rattle.fb_base.specs.declared.value.Value.{Value}
use Rattle.fb_base.specs.declared.reply.Reply.{Reply}
use Rattle.fb_index.specs.Entry.{Occurrence}
use Rattle.fb_index.specs.declared.fault.Fault.{Fault as FaultOf}
use Rattle.fb_syntax.specs.Trees.{ServicesTree, TestTree}
use Rattle.fb_tree.specs.Runs.{Tree, Invocation, CallList, AndCall, How, Ran, TestRun}
use Rattle.fb_tree.specs.Calls.{fault_of, visits_of}
use Rattle.fb_tree.specs.declared.asked.Asked.{Asked}
use Rattle.fb_tree.specs.declared.visit.Visit.{Visit}
use Rattle.fb_transport.specs.Sources.{Source, plan_source}
use Rattle.fb_transport.specs.declared.decision.Decision.TheVariants.{Forward, Fault}
use Rattle.fb_meaning.specs.Evaluations.{Done}
use Rattle.fb_meaning.specs.Meaning.{test_meaning}
use Rattle.fb_meaning.specs.CallLaws.{Answer, extended}

-- both ask for the same
pub record AskTheSame (asked other : Asked) : Type 0 where
  pub same_entry : asked.entry ≡ other.entry
  pub same_callee : asked.callee ≡ other.callee
  pub same_args : asked.args ≡ other.args

abbrev pub calls_in : Tree → CallList
calls_in (Invocation method args calls reply steps) = calls

-- Up to some call the two are the same, with replies and all below. That call both make in the same way, and it was
-- answered with different faults, or the calls below it part ways. What comes behind it says nothing.
pub data PartWays : CallList → CallList → Type 0 where
  PartHere : {calls others : CallList} (before : CallList) (asked other : Asked) (how other_how : How) (more other_more : List Answer)
      → calls ≡ extended (AndCall before asked how) more → others ≡ extended (AndCall before other other_how) other_more
      → AskTheSame asked other → ¬ (fault_of asked.reply how ≡ fault_of other.reply other_how) → PartWays calls others
  PartBelow : {calls others : CallList} (before : CallList) (asked other : Asked) (tree other_tree : Tree) (more other_more : List Answer)
      → calls ≡ extended (AndCall before asked (Ran tree)) more → others ≡ extended (AndCall before other (Ran other_tree)) other_more
      → AskTheSame asked other → PartWays (calls_in tree) (calls_in other_tree) → PartWays calls others

-- the same of the visits: a first place, in both, where their faults differ
pub record VisitsPart (first second : List Visit) : Type 0 where
  pub shared : List Visit
  pub here : Visit
  pub there : Visit
  pub after_here : List Visit
  pub after_there : List Visit
  pub first_visits : first ≡ shared ++ here ∷ after_here
  pub second_visits : second ≡ shared ++ there ∷ after_there
  pub same_index : here.index ≡ there.index
  pub same_callee : here.callee ≡ there.callee
  pub other_fault : ¬ (here.fault ≡ there.fault)

-- a source that lets each call be made or fail, as that of a plan
abbrev pub OnlyFails : Source → Type 0
OnlyFails source = (index : List Occurrence) (callee : ℕ) (args : List Value) →
    (source index callee args ≡ Some Forward) ⊎ ((given : Reply) × (source index callee args ≡ Some (Fault given)))

abbrev pub PlansOnlyFail : Type 0
PlansOnlyFail = (kinds : List Kind) (plan : List FaultOf) → OnlyFails (plan_source kinds plan)

-- two runs of a test are the same, or part ways
abbrev pub RunsGoAlike : Type 0
RunsGoAlike =
    (services : ServicesTree) (test : TestTree) (one other : Source) (fuel : ℕ) (first second : TestRun) (left rest : ℕ) → OnlyFails one → OnlyFails other →
    test_meaning services test one fuel ≡ Done first left → test_meaning services test other fuel ≡ Done second rest →
    (first ≡ second) ⊎ PartWays first.calls second.calls

-- what parts ways, parts in its visits
abbrev pub VisitsPartToo : Type 0
VisitsPartToo = (first second : TestRun) → PartWays first.calls second.calls → VisitsPart (visits_of first) (visits_of second)
