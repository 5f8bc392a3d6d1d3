-- Runs of a test under plans.
use Rattle.std.specs.Prelude.{◌≡◌, ℕ, List, Contains}
use Rattle.fb_index.specs.declared.fault.Fault.{Fault}
use Rattle.fb_syntax.specs.Trees.{ServicesTree, TestTree}
use Rattle.fb_check.specs.Programs.{kinds_given}
use Rattle.fb_tree.specs.Runs.{TestRun}
use Rattle.fb_tree.specs.Records.{records_in}
use Rattle.fb_tree.specs.declared.recorded.Record.{Record}
use Rattle.fb_transport.specs.Sources.{plan_source}
use Rattle.fb_meaning.specs.Each.{HoldsOfEach}
use Rattle.fb_meaning.specs.Evaluations.{Evaluation, Done}
use Rattle.fb_meaning.specs.Meaning.{test_meaning}

-- the run of a plan: the test with this fuel, where the plan decides which calls fail
abbrev pub run_of : ServicesTree → TestTree → ℕ → List Fault → Evaluation TestRun ℕ
run_of services test fuel plan = test_meaning services test (plan_source (kinds_given services) plan) fuel

-- a plan is covered where its run is done and each invocation has its record among these
pub record IsCovered (services : ServicesTree) (test : TestTree) (fuel : ℕ) (records : List Record) (plan : List Fault) : Type 0 where
  pub run : TestRun
  pub left : ℕ
  pub done : run_of services test fuel plan ≡ Done run left
  pub recorded : HoldsOfEach (Contains records) (records_in run.calls)
