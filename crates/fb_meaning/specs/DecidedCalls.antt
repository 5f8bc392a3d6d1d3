-- What is done has asked its source for each call.
use Rattle.std.specs.Prelude.{◌≡◌, ℕ, List, []}
use Rattle.fb_base.specs.declared.method.MethodId.{MethodId}
use Rattle.fb_base.specs.declared.value.Value.{Value}
use Rattle.fb_index.specs.Entry.{Occurrence}
use Rattle.fb_syntax.specs.Trees.{ServicesTree, TestTree}
use Rattle.fb_tree.specs.Runs.{Tree, TestRun}
use Rattle.fb_tree.specs.Records.{record_of}
use Rattle.fb_transport.specs.Sources.{Source}
use Rattle.fb_meaning.specs.CallLaws.{AreDecided}
use Rattle.fb_meaning.specs.Evaluations.{Done}
use Rattle.fb_meaning.specs.Meaning.{method_meaning, test_meaning}
use Rattle.fb_meaning.specs.Parting.{calls_in}

-- an invocation of the method on these arguments, each of whose calls got what the source decides at its index
pub record IsDecidedTree (source : Source) (method : MethodId) (args : List Value) (index : List Occurrence) (tree : Tree) : Type 0 where
  pub same_method : (record_of tree).method ≡ method
  pub same_args : (record_of tree).args ≡ args
  pub decided : AreDecided source index (calls_in tree)

abbrev pub MethodsAreDecided : Type 0
MethodsAreDecided =
    (services : ServicesTree) (source : Source) (fuel : ℕ) (method : MethodId) (args : List Value) (index : List Occurrence) (tree : Tree) (left : ℕ) →
    method_meaning services source fuel method args index ≡ Done tree left → IsDecidedTree source method args index tree

abbrev pub TestsAreDecided : Type 0
TestsAreDecided =
    (services : ServicesTree) (test : TestTree) (source : Source) (fuel : ℕ) (run : TestRun) (left : ℕ) →
    test_meaning services test source fuel ≡ Done run left → AreDecided source [] run.calls
