-- What is evaluated again, where calls get the replies that were recorded.
use Rattle.std.specs.Prelude.{◌≡◌, ℕ, ◌≤◌, List, []}
use Rattle.fb_base.specs.declared.method.MethodId.{MethodId}
use Rattle.fb_base.specs.declared.value.Value.{Value}
use Rattle.fb_index.specs.Entry.{Occurrence}
use Rattle.fb_syntax.specs.Trees.{ServicesTree, TestTree}
use Rattle.fb_tree.specs.Runs.{Tree, TestRun}
use Rattle.fb_tree.specs.Records.{asked_of, record_of, steps_of_run}
use Rattle.fb_tree.specs.declared.recorded.Record.{Record}
use Rattle.fb_transport.specs.Sources.{Source}
use Rattle.fb_meaning.specs.Evaluations.{Done}
use Rattle.fb_meaning.specs.Meaning.{method_meaning, test_meaning}
use Rattle.fb_meaning.specs.Records.{record_source, parts_source}

-- by its own replies a method makes this record
pub record IsMadeAgain (services : ServicesTree) (fuel : ℕ) (item : Record) : Type 0 where
  pub tree : Tree
  pub left : ℕ
  pub done : method_meaning services (record_source item) fuel item.method item.args [] ≡ Done tree left
  pub recorded : record_of tree ≡ item

-- a run whose calls ask and get the same, that ends alike and takes as many own steps
pub record IsPartsRun (services : ServicesTree) (test : TestTree) (fuel : ℕ) (run : TestRun) : Type 0 where
  pub parts : TestRun
  pub left : ℕ
  pub done : test_meaning services test (parts_source run.calls) fuel ≡ Done parts left
  pub asked : asked_of parts.calls ≡ asked_of run.calls
  pub outcome : parts.outcome ≡ run.outcome
  pub steps : parts.steps ≡ run.steps

-- any invocation, with fuel for its own steps
abbrev pub RecordsAreMadeAgain : Type 0
RecordsAreMadeAgain =
    (services : ServicesTree) (source : Source) (fuel again : ℕ) (method : MethodId) (args : List Value) (index : List Occurrence) (tree : Tree) (left : ℕ) →
    method_meaning services source fuel method args index ≡ Done tree left → (record_of tree).steps ≤ again → IsMadeAgain services again (record_of tree)

-- any test, with fuel for all steps of its run
abbrev pub RunsAreMadeAgain : Type 0
RunsAreMadeAgain =
    (services : ServicesTree) (test : TestTree) (source : Source) (fuel again : ℕ) (run : TestRun) (left : ℕ) →
    test_meaning services test source fuel ≡ Done run left → steps_of_run run ≤ again → IsPartsRun services test again run
