-- Evaluations by sources that lack no answer.
use Rattle.std.specs.Prelude.{◌≢◌, ℕ, List, None}
use Rattle.fb_base.specs.declared.method.MethodId.{MethodId}
use Rattle.fb_base.specs.declared.value.Value.{Value}
use Rattle.fb_base.specs.declared.kind.Kind.{Kind}
use Rattle.fb_index.specs.Entry.{Occurrence}
use Rattle.fb_index.specs.declared.fault.Fault.{Fault}
use Rattle.fb_syntax.specs.Trees.{ServicesTree, TestTree}
use Rattle.fb_transport.specs.Sources.{Source, plan_source}
use Rattle.fb_meaning.specs.Evaluations.{Missing}
use Rattle.fb_meaning.specs.Meaning.{method_meaning, test_meaning}

-- it answers each request
abbrev pub LacksNothing : Source → Type 0
LacksNothing source = (index : List Occurrence) (callee : ℕ) (args : List Value) → source index callee args ≢ None

-- then no answer is missing
abbrev pub MethodsMissNothing : Type 0
MethodsMissNothing = (services : ServicesTree) (source : Source) → LacksNothing source
    → (fuel : ℕ) (method : MethodId) (args : List Value) (index : List Occurrence) → method_meaning services source fuel method args index ≢ Missing

abbrev pub TestsMissNothing : Type 0
TestsMissNothing = (services : ServicesTree) (source : Source) → LacksNothing source
    → (test : TestTree) (fuel : ℕ) → test_meaning services test source fuel ≢ Missing

-- the sources of plans are such
abbrev pub PlansLackNothing : Type 0
PlansLackNothing = (kinds : List Kind) (plan : List Fault) → LacksNothing (plan_source kinds plan)
