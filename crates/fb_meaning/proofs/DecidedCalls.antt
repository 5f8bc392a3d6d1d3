-- The calls of what is done, as the law says it.
use Rattle.std.specs.Prelude.{◌≡◌, ℕ, List}
use Rattle.fb_base.specs.declared.method.MethodId.{MethodId}
use Rattle.fb_base.specs.declared.value.Value.{Value}
use Rattle.fb_index.specs.Entry.{Occurrence}
use Rattle.fb_syntax.specs.Trees.{ServicesTree}
use Rattle.fb_tree.specs.Runs.{Tree, Invocation}
use Rattle.fb_transport.specs.Sources.{Source}
use Rattle.fb_meaning.specs.DecidedCalls.{IsDecidedTree, MethodsAreDecided, TestsAreDecided}
use Rattle.fb_meaning.specs.Evaluations.{Done}
use Rattle.fb_meaning.specs.Meaning.{method_meaning}
use Rattle.fb_meaning.proofs.CallRecords.{method_decided, test_decided}

pub methods_are_decided : MethodsAreDecided
methods_are_decided services source fuel m args index tree left e = by tree e
  where
    by : (tree : Tree) → method_meaning services source fuel m args index ≡ Done tree left → IsDecidedTree source m args index tree
    by (Invocation method given calls reply steps) e =
        let h = method_decided services source fuel m args index (Invocation method given calls reply steps) left e in
        record { same_method = h.0; same_args = h.1; decided = h.2 }

pub tests_are_decided : TestsAreDecided
tests_are_decided services test source fuel run left e = test_decided services source test fuel run left e
