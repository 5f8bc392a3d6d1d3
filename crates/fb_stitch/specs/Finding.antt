-- What walks through records find.
use Rattle.std.specs.Prelude.{◌≡◌, ℕ, ◌+◌, ◌≤◌, ◌<◌, ◌⊎◌, List, [], ◌∷◌, ◌++◌, map, slice_get, slice_set, Option, Some, None}
use Rattle.fb_base.specs.declared.method.MethodId.{MethodId}
use Rattle.fb_base.specs.declared.reply.Reply.{Reply}
use Rattle.fb_base.specs.declared.value.Value.{Value}
use Rattle.fb_index.specs.Entry.{Occurrence}
use Rattle.fb_check.specs.Programs.{kinds_given}
use Rattle.fb_store.specs.Walks.{Walk, walk_of}
use Rattle.fb_tree.specs.Runs.{Tree, How}
use Rattle.fb_tree.specs.Records.{records_of, records_below, steps_of, steps_below}
use Rattle.fb_tree.specs.Calls.{PlacedCall, call_at, calls_within, calls_below, injected_of, injected_by, visit_of}
use Rattle.fb_tree.specs.declared.recorded.Record.{Record}
use Rattle.fb_tree.specs.declared.visit.Visit.{Visit}
use Rattle.fb_transport.specs.Sources.{Source, plan_source}
use Rattle.fb_meaning.specs.Bodies.{PreparedCall, asked_and_got, reply_of}
use Rattle.fb_meaning.specs.Parting.{calls_in}
use Rattle.fb_meaning.specs.Spelling.{AreAt}
use Rattle.fb_stitch.specs.declared.found.Found.{Found}
use Rattle.fb_stitch.specs.declared.walks.Request.{Request}
use Rattle.fb_stitch.specs.declared.walks.Walks.{Walks}
use Rattle.fb_stitch.specs.Sources.{stitched_source}
use Rattle.fb_stitch.specs.Stitched.{Ground, IsStitched, IsStitchedSo}

-- what walks go over
abbrev pub ground_of : Walks → Ground
ground_of walks = record {
  services = walks.program.now.tree;
  records = walks.store.now;
  source = plan_source (kinds_given walks.program.now.tree) walks.plan.now;
  limit = walks.limit;
}

abbrev pub stitched_by : Walks → Source
stitched_by walks = stitched_source walks.program.now.tree walks.store.now walks.limit walks.plan.now

-- what a body asks for
abbrev pub prepared_of : Request → PreparedCall
prepared_of request = record { entry = request.entry; callee = request.callee; args = request.args.now }

-- so much more was found: the places of these records, these calls, these callees of injected calls, so many steps
pub record Adds (records : List Record) (old new : Found) (items : List Record) (calls : List PlacedCall) (callees : List MethodId) (steps : ℕ) : Type 0 where
  pub places : List ℕ
  pub are_at : AreAt records places items
  pub uses : new.uses.items ≡ old.uses.items ++ places
  pub visits : new.visits ≡ old.visits ++ map visit_of calls
  pub injected : new.injected ≡ old.injected ++ callees
  pub steps_are : new.steps ≡ old.steps + steps

-- a visit more
pub record AddsVisit (old new : Found) (visit : Visit) (callees : List MethodId) : Type 0 where
  pub uses : new.uses.items ≡ old.uses.items
  pub visits : new.visits ≡ old.visits ++ visit ∷ []
  pub injected : new.injected ≡ old.injected ++ callees
  pub steps : new.steps ≡ old.steps

-- an invocation has begun, whose record isn't known yet
pub record Opens (old new : Found) : Type 0 where
  pub uses : new.uses.items ≡ old.uses.items ++ 0 ∷ []
  pub visits : new.visits ≡ old.visits
  pub injected : new.injected ≡ old.injected
  pub steps : new.steps ≡ old.steps

-- the invocation at that place has ended, with this record
pub record Closes (slot id : ℕ) (steps : ℕ) (old new : Found) : Type 0 where
  pub uses : new.uses.items ≡ slice_set old.uses.items slot id
  pub visits : new.visits ≡ old.visits
  pub injected : new.injected ≡ old.injected
  pub steps_are : new.steps ≡ old.steps + steps

module _ (ground : Ground) where
  -- the record with that number has ended the invocation, or its steps are too many
  abbrev pub EndsAt : ℕ → ℕ → Found → Found → Option Reply → Type 0
  EndsAt slot id old new None = (item : Record) × (slice_get ground.records id ≡ Some item) × (ground.limit < old.steps + item.steps)
  EndsAt slot id old new (Some given) =
      (item : Record) × (slice_get ground.records id ≡ Some item) × (item.reply ≡ given) × (new.steps ≤ ground.limit) × Closes slot id item.steps old new

  -- an invocation with this reply
  pub record HasTree (method : MethodId) (args : List Value) (index : List Occurrence) (old new : Found) (given : Reply) : Type 0 where
    pub tree : Tree
    pub stitched : IsStitched ground method args index tree
    pub replies : reply_of tree ≡ given
    pub adds : Adds ground.records old new (records_of tree) (calls_within index (calls_in tree)) (injected_of tree) (steps_of tree)
    pub within : new.steps ≤ ground.limit

  -- an invocation, or none exactly where none is stitched whose steps fit
  abbrev pub FindsTree : MethodId → List Value → List Occurrence → Found → Found → Option Reply → Type 0
  FindsTree method args index old new (Some given) = HasTree method args index old new given
  FindsTree method args index old new None = (tree : Tree) → IsStitched ground method args index tree → ¬ (old.steps + steps_of tree ≤ ground.limit)

  -- a call with this reply
  pub record HasCall (request : PreparedCall) (index : List Occurrence) (old new : Found) (given : Reply) : Type 0 where
    pub how : How
    pub stitched : IsStitchedSo ground index (asked_and_got request given) how
    pub adds : Adds ground.records old new (records_below how) (call_at index (asked_and_got request given) how ∷ calls_below index how)
        (injected_by request.callee how) (steps_below how)
    pub within : new.steps ≤ ground.limit

  -- a call, or none exactly where none is stitched whose steps fit
  abbrev pub FindsCall : PreparedCall → List Occurrence → Found → Found → Option Reply → Type 0
  FindsCall request index old new (Some given) = HasCall request index old new given
  FindsCall request index old new None =
      (given : Reply) (how : How) → IsStitchedSo ground index (asked_and_got request given) how → ¬ (old.steps + steps_below how ≤ ground.limit)

  -- the walk goes on with the reply of the call, or there is no such call, or no record goes on so
  abbrev pub GoesOnWith : PreparedCall → List Occurrence → Walk → Found → Found → Option Walk → Type 0
  GoesOnWith request index walk old new (Some next) =
      (given : Reply) × HasCall request index old new given × (walk_of walk.records walk.method walk.args (walk.replies ++ given ∷ []) ≡ Some next)
  GoesOnWith request index walk old new None =
      FindsCall request index old new None
      ⊎ ((given : Reply) × HasCall request index old new given × (walk_of walk.records walk.method walk.args (walk.replies ++ given ∷ []) ≡ None))
