-- Trees that are stitched together from records, where a source decides on their calls.
use Rattle.std.specs.Prelude.{◌≡◌, ℕ, ◌<◌, ◌≤◌, List, length, Contains, slice_get, Some}
use Rattle.fb_base.specs.declared.method.MethodId.{MethodId}
use Rattle.fb_base.specs.declared.value.Value.{Value}
use Rattle.fb_index.specs.Entry.{Occurrence}
use Rattle.fb_graph.specs.Chain.{IsRank}
use Rattle.fb_check.specs.Calls.{graph_of}
use Rattle.fb_check.specs.Programs.{methods_of}
use Rattle.fb_syntax.specs.Trees.{ServicesTree}
use Rattle.fb_eval.specs.Units.{most_units}
use Rattle.fb_store.specs.Following.{AreAgreed}
use Rattle.fb_tree.specs.Runs.{Tree, How}
use Rattle.fb_tree.specs.Records.{records_of, records_below}
use Rattle.fb_tree.specs.declared.asked.Asked.{Asked}
use Rattle.fb_tree.specs.declared.recorded.Record.{Record}
use Rattle.fb_transport.specs.Sources.{Source}
use Rattle.fb_meaning.specs.CallLaws.{IsDecidedSo}
use Rattle.fb_meaning.specs.DecidedCalls.{IsDecidedTree}
use Rattle.fb_meaning.specs.Each.{HoldsOfEach}
use Rattle.fb_meaning.specs.Parting.{OnlyFails}

-- what trees are stitched from: records of the services, a source, and how many steps there may be
pub record Ground : Type 0 where
  pub services : ServicesTree
  pub records : List Record
  pub source : Source
  pub limit : ℕ

module _ (ground : Ground) where
  -- an invocation, each of whose calls got what the source decides, and each of whose bodies is recorded
  pub record IsStitched (method : MethodId) (args : List Value) (index : List Occurrence) (tree : Tree) : Type 0 where
    pub asked : IsDecidedTree ground.source method args index tree
    pub recorded : HoldsOfEach (Contains ground.records) (records_of tree)

  -- the same of a call at an index
  pub record IsStitchedSo (index : List Occurrence) (asked : Asked) (how : How) : Type 0 where
    pub decided : IsDecidedSo ground.source index asked how
    pub recorded : HoldsOfEach (Contains ground.records) (records_below how)

  -- a call of a recorded invocation is one of a method of lower rank
  pub record IsLower (item : Record) (callee : MethodId) : Type 0 where
    pub within : callee.0 < length (methods_of ground.services)
    pub lower : (k j : ℕ) → IsRank (graph_of ground.services) item.method.0 k → IsRank (graph_of ground.services) callee.0 j → j < k

  -- where walks end and meet at most one tree
  pub record IsSound : Type 0 where
    pub small : ground.limit ≤ most_units
    pub agreed : AreAgreed ground.records
    pub fails : OnlyFails ground.source
    pub there : (item : Record) → Contains ground.records item → item.method.0 < length (methods_of ground.services)
    pub lowers : (item : Record) (k : ℕ) (asked : Asked) → Contains ground.records item → slice_get item.calls k ≡ Some asked → IsLower item asked.callee
    pub unique : (method : MethodId) (args : List Value) (index : List Occurrence) (one other : Tree) →
        IsStitched method args index one → IsStitched method args index other → one ≡ other
