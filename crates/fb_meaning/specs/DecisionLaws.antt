-- A run is made by the decisions on its calls.
use Rattle.std.specs.Prelude.{◌≡◌, ◌≤◌, ◌-◌, ℕ, ⊤, List, []}
use Rattle.fb_base.specs.declared.method.MethodId.{MethodId}
use Rattle.fb_base.specs.declared.value.Value.{Value}
use Rattle.fb_index.specs.Entry.{Occurrence}
use Rattle.fb_syntax.specs.Trees.{ServicesTree, TestTree}
use Rattle.fb_tree.specs.Runs.{Tree, CallList, NoCalls, AndCall, Known as KnownHow, TestRun}
use Rattle.fb_tree.specs.Calls.{injected_by}
use Rattle.fb_tree.specs.Records.{record_of, records_of, records_in, steps_of, steps_below, steps_of_run}
use Rattle.fb_tree.specs.declared.recorded.Record.{Record}
use Rattle.fb_transport.specs.Sources.{Source}
use Rattle.fb_meaning.specs.CallLaws.{AreDecided}
use Rattle.fb_meaning.specs.Each.{HoldsOfEach}
use Rattle.fb_meaning.specs.Evaluations.{Done}
use Rattle.fb_meaning.specs.Meaning.{method_meaning, test_meaning}
use Rattle.fb_meaning.specs.Parting.{calls_in}
use Rattle.fb_meaning.specs.Records.{IsTrueRecord}
use Rattle.fb_meaning.specs.Replays.{IsPartsRun}

-- a source that decides on the calls of an invocation as they were decided makes the same invocation, at any index
abbrev pub SameDecisionsSameTree : Type 0
SameDecisionsSameTree =
    (services : ServicesTree) (one other : Source) (fuel : ℕ) (method : MethodId) (args : List Value) (here there : List Occurrence) (tree : Tree) (left : ℕ) →
    method_meaning services one fuel method args here ≡ Done tree left → AreDecided other there (calls_in tree) →
    method_meaning services other fuel method args there ≡ Done tree left

abbrev pub SameDecisionsSameRun : Type 0
SameDecisionsSameRun =
    (services : ServicesTree) (test : TestTree) (one other : Source) (fuel : ℕ) (run : TestRun) (left : ℕ) →
    test_meaning services test one fuel ≡ Done run left → AreDecided other [] run.calls → test_meaning services test other fuel ≡ Done run left

-- with some fuel it is true
abbrev pub IsTrueOnce : ServicesTree → Record → Type 0
IsTrueOnce services item = (fuel : ℕ) × IsTrueRecord services fuel item

-- an invocation that is joined of true records is made by a source that decides so
abbrev pub JoinedIsMade : Type 0
JoinedIsMade =
    (services : ServicesTree) (source : Source) (fuel : ℕ) (index : List Occurrence) (tree : Tree) →
    HoldsOfEach (IsTrueOnce services) (records_of tree) → AreDecided source index (calls_in tree) → steps_of tree ≤ fuel →
    method_meaning services source fuel (record_of tree).method (record_of tree).args index ≡ Done tree (fuel - steps_of tree)

-- what is joined of true records, and of the test alone, is the run by a source that decides so
abbrev pub JoinedIsRun : Type 0
JoinedIsRun =
    (services : ServicesTree) (test : TestTree) (source : Source) (fuel : ℕ) (run : TestRun) →
    HoldsOfEach (IsTrueOnce services) (records_in run.calls) → IsPartsRun services test fuel run → AreDecided source [] run.calls → steps_of_run run ≤ fuel →
    test_meaning services test source fuel ≡ Done run (fuel - steps_of_run run)

-- the calls of the first are those of the second, each with the steps and the injected callees of its part
abbrev pub ArePartsOf : CallList → CallList → Type 0
ArePartsOf NoCalls NoCalls = ⊤
ArePartsOf (AndCall parts asked (KnownHow steps injected)) (AndCall before other how) =
    ArePartsOf parts before × (asked ≡ other) × (steps ≡ steps_below how) × (injected ≡ injected_by asked.callee how)
ArePartsOf _ _ = ⊥

-- a test evaluated by any source that knew the parts of a run
abbrev pub PartsAreOfRun : Type 0
PartsAreOfRun =
    (services : ServicesTree) (test : TestTree) (source : Source) (fuel : ℕ) (parts run : TestRun) (left : ℕ) →
    test_meaning services test source fuel ≡ Done parts left → ArePartsOf parts.calls run.calls → parts.outcome ≡ run.outcome → parts.steps ≡ run.steps →
    IsPartsRun services test fuel run
