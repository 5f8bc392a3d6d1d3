-- Walks end and meet at most one tree.
use Rattle.std.proofs.Common.{◌≡◌, ◌≤◌, ◌<◌, ◌+◌, ◌-◌, ℕ, List, slice_get, Contains, Some, inl, inr, refl, sym, ap, ◌∙◌, arith}
use Rattle.std.proofs.lemmas.Option.{slice_get_within}
use Rattle.fb_base.specs.declared.method.MethodId.{MethodId}
use Rattle.fb_base.specs.declared.reply.Reply.{Reply}
use Rattle.fb_base.specs.declared.value.Value.{Value}
use Rattle.fb_graph.specs.Chain.{IsRank}
use Rattle.fb_index.specs.Entry.{Occurrence}
use Rattle.fb_syntax.specs.Trees.{ServicesTree}
use Rattle.fb_check.specs.Calls.{graph_of}
use Rattle.fb_check.specs.Programs.{methods_of, callee_at}
use Rattle.fb_eval.specs.Units.{most_units}
use Rattle.fb_store.specs.Following.{AreAgreed}
use Rattle.fb_tree.specs.Runs.{Tree, Invocation, How, Faulted, Ran, Known as KnownHow}
use Rattle.fb_tree.specs.Records.{record_of, records_of, steps_of}
use Rattle.fb_tree.specs.declared.asked.Asked.{Asked}
use Rattle.fb_tree.specs.declared.recorded.Record.{Record}
use Rattle.fb_transport.specs.Sources.{Source}
use Rattle.fb_transport.specs.declared.decision.Decision.TheVariants.{Forward}
use Rattle.fb_meaning.specs.Bodies.{PreparedCall, asked_and_got, reply_of}
use Rattle.fb_meaning.specs.CallLaws.{IsDecidedSo, AreDecided}
use Rattle.fb_meaning.specs.DecisionLaws.{IsTrueOnce, JoinedIsMade}
use Rattle.fb_meaning.specs.Each.{HoldsOfEach}
use Rattle.fb_meaning.specs.Evaluations.{Evaluation, Done}
use Rattle.fb_meaning.specs.Meaning.{method_meaning}
use Rattle.fb_meaning.specs.Parting.{OnlyFails}
use Rattle.fb_meaning.specs.Records.{IsCallOf}
use Rattle.fb_stitch.specs.Sources.{AreTrueOf}
use Rattle.fb_stitch.specs.Stitched.{Ground, IsStitched, IsStitchedSo, IsLower, IsSound}
use Rattle.fb_stitch.proofs.Lists.{each_item, each_so, item_of}

-- records among true ones are true
pub recorded_are_true : (services : ServicesTree) (records items : List Record) → AreTrueOf services records → HoldsOfEach (Contains records) items → AreTrueOf services items
recorded_are_true services records items truths among =
    each_so (Contains records) (IsTrueOnce services) items
    (λ item has. let at = item_of records item has in each_item (IsTrueOnce services) records at.0 item truths at.1) among

-- two results of one evaluation
one_result : {A : Type 0} (evaluated : Evaluation A ℕ) (one other : A) (left rest : ℕ) → evaluated ≡ Done one left → evaluated ≡ Done other rest → one ≡ other
one_result evaluated one other left rest e f = let both = sym e ∙ f in done_same one other left rest both
  where
    done_same : {A : Type 0} (one other : A) (left rest : ℕ) → ◌≡◌ {A = Evaluation A ℕ} (Done one left) (Done other rest) → one ≡ other
    done_same one other left rest both = cc

module _ (made : JoinedIsMade) (ground : Ground) (truths : AreTrueOf ground.services ground.records) where
  -- a tree that is stitched is evaluated so, where its steps fit
  pub stitched_is_made : (fuel : ℕ) (method : MethodId) (args : List Value) (index : List Occurrence) (tree : Tree) → IsStitched ground method args index tree
      → steps_of tree ≤ fuel → method_meaning ground.services ground.source fuel method args index ≡ Done tree (fuel - steps_of tree)
  stitched_is_made fuel method args index tree stitched fits =
      ap (λ m. method_meaning ground.services ground.source fuel m args index) (sym stitched.asked.same_method)
      ∙ ap (λ a. method_meaning ground.services ground.source fuel (record_of tree).method a index) (sym stitched.asked.same_args)
      ∙ made ground.services ground.source fuel index tree (recorded_are_true ground.services ground.records (records_of tree) truths stitched.recorded)
      stitched.asked.decided fits

  one_tree : (method : MethodId) (args : List Value) (index : List Occurrence) (one other : Tree)
      → IsStitched ground method args index one → IsStitched ground method args index other → one ≡ other
  one_tree method args index one other first second =
      let fuel = steps_of one + steps_of other in
      one_result (method_meaning ground.services ground.source fuel method args index) one other (fuel - steps_of one) (fuel - steps_of other)
      (stitched_is_made fuel method args index one first (omega arith)) (stitched_is_made fuel method args index other second (omega arith))

  module _ (small : ground.limit ≤ most_units) (agreed : AreAgreed ground.records) (fails : OnlyFails ground.source)
      (above : (tree : ServicesTree) (method site callee k j : ℕ) → callee_at tree method site ≡ Some callee →
      IsRank (graph_of tree) method k → IsRank (graph_of tree) callee j → j < k) where
    true_at : (item : Record) → Contains ground.records item → IsTrueOnce ground.services item
    true_at item has = (let at = item_of ground.records item has in each_item (IsTrueOnce ground.services) ground.records at.0 item truths at.1)

    lower_at : (item : Record) (k : ℕ) (asked : Asked) → Contains ground.records item → slice_get item.calls k ≡ Some asked → IsLower ground item asked.callee
    lower_at item k asked has is =
        let so = (true_at item has).1 in
        let call = each_item (IsCallOf ground.services item.method.0) item.calls k asked so.calls_fit is in
        record {
          within = slice_get_within (methods_of ground.services) asked.callee.0 call.callee call.there;
          lower = λ n m. above ground.services item.method.0 asked.entry.site asked.callee.0 n m call.at_site;
        }

    pub sound : IsSound ground
    sound = record {
      small = small;
      agreed = agreed;
      fails = fails;
      there = λ item has. (let so = (true_at item has).1 in slice_get_within (methods_of ground.services) item.method.0 so.method so.there);
      lowers = lower_at;
      unique = one_tree;
    }

-- ---- calls

-- the invocation below a call
pub record IsBelow (ground : Ground) (index : List Occurrence) (asked : Asked) (tree : Tree) : Type 0 where
  pub stitched : IsStitched ground asked.callee asked.args index tree
  pub replies : reply_of tree ≡ asked.reply

pub stitched_below : (ground : Ground) (index : List Occurrence) (asked : Asked) (tree : Tree) → IsStitchedSo ground index asked (Ran tree) → IsBelow ground index asked tree
unfolding AreDecided records_of
stitched_below ground index asked (Invocation method args calls reply steps) so = record {
  stitched = record {
    asked = record { same_method = so.decided.1; same_args = so.decided.2; decided = so.decided.4 };
    recorded = so.recorded;
  };
  replies = so.decided.3;
}

pub stitched_above : (ground : Ground) (index : List Occurrence) (asked : Asked) (tree : Tree)
    → ground.source index asked.callee.0 asked.args ≡ Some Forward → IsBelow ground index asked tree → IsStitchedSo ground index asked (Ran tree)
unfolding AreDecided records_of
stitched_above ground index asked (Invocation method args calls reply steps) forward below = record {
  decided = (forward, below.stitched.asked.same_method, below.stitched.asked.same_args, below.replies, below.stitched.asked.decided);
  recorded = below.stitched.recorded;
}

-- what the source decides where the callee ran
pub forwards_so : (source : Source) (index : List Occurrence) (asked : Asked) (tree : Tree) → IsDecidedSo source index asked (Ran tree)
    → source index asked.callee.0 asked.args ≡ Some Forward
unfolding AreDecided
forwards_so source index asked (Invocation method args calls reply steps) so = so.0

module _ (ground : Ground) (sound : IsSound ground) where
  -- no call is known
  pub never_known : (index : List Occurrence) (asked : Asked) (steps : ℕ) (injected : List MethodId) → ¬ (IsStitchedSo ground index asked (KnownHow steps injected))
  unfolding AreDecided
  never_known index asked steps injected so =
      let e = so.decided in
      elim (sound.fails index asked.callee.0 asked.args) [
        | inl forward ↦ (let both = sym e ∙ forward in absurd (cc))
        | inr fault ↦ (let both = sym e ∙ fault.1 in absurd (cc))
      ]

  -- at most one reply and way
  pub record AreSame (one other : Reply) (how also : How) : Type 0 where
    pub same_reply : one ≡ other
    pub same_how : how ≡ also

  pub one_way : (request : PreparedCall) (index : List Occurrence) (one other : Reply) (how also : How)
      → IsStitchedSo ground index (asked_and_got request one) how → IsStitchedSo ground index (asked_and_got request other) also → AreSame one other how also
  unfolding AreDecided
  one_way request index one other Faulted Faulted first second = (let both = sym first.decided ∙ second.decided in record { same_reply = cc; same_how = refl })
  one_way request index one other Faulted (Ran tree) first second =
      let both = sym first.decided ∙ forwards_so ground.source index (asked_and_got request other) tree second.decided in absurd (cc)
  one_way request index one other (Ran tree) Faulted first second =
      let both = sym second.decided ∙ forwards_so ground.source index (asked_and_got request one) tree first.decided in absurd (cc)
  one_way request index one other (Ran tree) (Ran also) first second =
      let mine = stitched_below ground index (asked_and_got request one) tree first in
      let theirs = stitched_below ground index (asked_and_got request other) also second in
      let same = sound.unique request.callee request.args index tree also mine.stitched theirs.stitched in
      record { same_reply = sym mine.replies ∙ ap reply_of same ∙ theirs.replies; same_how = ap Ran same }
  one_way request index one other (KnownHow steps injected) also first second = absurd (never_known index (asked_and_got request one) steps injected first)
  one_way request index one other Faulted (KnownHow steps injected) first second = absurd (never_known index (asked_and_got request other) steps injected second)
  one_way request index one other (Ran tree) (KnownHow steps injected) first second = absurd (never_known index (asked_and_got request other) steps injected second)
