-- What is known of a call.
use Rattle.std.proofs.Common.{◌≡◌, ◌≤◌, ◌-◌, ℕ, Bool, true, false, List, [], ◌++◌, length, Contains, Option, Some, None, refl, sym, ap, ◌∙◌, subst, arith, if◌then◌else◌}
use Rattle.std.proofs.lemmas.Option.{same_Some}
use Rattle.fb_base.specs.declared.method.MethodId.{MethodId}
use Rattle.fb_base.specs.declared.reply.Reply.{Reply}
use Rattle.fb_base.specs.declared.value.Value.{Value}
use Rattle.fb_index.specs.Entry.{Occurrence}
use Rattle.fb_index.specs.declared.fault.Fault.{Fault as FaultOf}
use Rattle.fb_syntax.specs.Trees.{ServicesTree}
use Rattle.fb_check.specs.Programs.{kinds_given, methods_of}
use Rattle.fb_tree.specs.Runs.{Tree}
use Rattle.fb_tree.specs.Records.{records_of, record_of, steps_of}
use Rattle.fb_tree.specs.Calls.{injected_of}
use Rattle.fb_tree.specs.Sameness.{same_record, same_record-Decides}
use Rattle.fb_tree.specs.declared.recorded.Record.{Record}
use Rattle.fb_transport.specs.Sources.{Source, fault_or_forward, injected_at, plan_source}
use Rattle.fb_transport.specs.declared.decision.Decision.{Decision}
use Rattle.fb_transport.specs.declared.decision.Decision.TheVariants.{Forward, Fault, Known}
use Rattle.fb_meaning.specs.Bodies.{reply_of}
use Rattle.fb_meaning.specs.DecidedCalls.{MethodsAreDecided}
use Rattle.fb_meaning.specs.DecisionLaws.{JoinedIsMade}
use Rattle.fb_meaning.specs.Each.{HoldsOfEach}
use Rattle.fb_meaning.specs.Evaluations.{Evaluation, Spent, Missing, Done}
use Rattle.fb_meaning.specs.Fuel.{FollowsFuel}
use Rattle.fb_meaning.specs.Meaning.{method_meaning}
use Rattle.fb_stitch.specs.declared.found.Found.{Found}
use Rattle.fb_stitch.specs.Sources.{AreTrueOf, are_recorded, known_of, fault_or, stitched_source}
use Rattle.fb_stitch.specs.Stitched.{Ground, IsStitched, IsSound}
use Rattle.fb_stitch.specs.Finding.{FindsTree, HasTree}
use Rattle.fb_stitch.proofs.Extended.{records_parts}
use Rattle.fb_stitch.proofs.Lists.{all_are_contained, contained_are_all}
use Rattle.fb_stitch.proofs.Unique.{stitched_is_made}

-- ---- the source of a plan

forward_or_fault : (fault : Option Reply) → (steps : ℕ) (injected : List MethodId) (given : Reply) → ¬ (Some (fault_or_forward fault) ≡ Some (Known given steps injected))
forward_or_fault None steps injected given e = cc
forward_or_fault (Some other) steps injected given e = cc

pub plan_knows_nothing : (services : ServicesTree) (plan : List FaultOf) (index : List Occurrence) (callee : ℕ) (args : List Value) (given : Reply) (steps : ℕ) (injected : List MethodId)
    → ¬ (plan_source (kinds_given services) plan index callee args ≡ Some (Known given steps injected))
plan_knows_nothing services plan index callee args given steps injected =
    forward_or_fault (injected_at (kinds_given services) plan index callee) steps injected given

-- ---- evaluations that are known

pub record IsKnown (records : List Record) (evaluated : Evaluation Tree ℕ) (decision : Decision) : Type 0 where
  pub tree : Tree
  pub left : ℕ
  pub done : evaluated ≡ Done tree left
  pub recorded : HoldsOfEach (Contains records) (records_of tree)
  pub decided : decision ≡ Known (reply_of tree) (steps_of tree) (injected_of tree)

pub is_known : (records : List Record) (evaluated : Evaluation Tree ℕ) (decision : Decision) → known_of records evaluated ≡ Some decision → IsKnown records evaluated decision
is_known records Spent decision e = absurd (cc)
is_known records Missing decision e = absurd (cc)
is_known records (Done tree left) decision e = by (are_recorded records (records_of tree)) refl e
  where
    by : (b : Bool) → are_recorded records (records_of tree) ≡ b → (if b then Some (Known (reply_of tree) (steps_of tree) (injected_of tree)) else None) ≡ Some decision
        → IsKnown records (Done tree left) decision
    by true all e = record {
      tree = tree;
      left = left;
      done = refl;
      recorded = all_are_contained same_record same_record-Decides (records_of tree) records all;
      decided = sym (same_Some (Known (reply_of tree) (steps_of tree) (injected_of tree)) decision e);
    }
    by false all e = absurd (cc)

pub known_so : (records : List Record) (evaluated : Evaluation Tree ℕ) (tree : Tree) (left : ℕ) → evaluated ≡ Done tree left → HoldsOfEach (Contains records) (records_of tree)
    → known_of records evaluated ≡ Some (Known (reply_of tree) (steps_of tree) (injected_of tree))
known_so records evaluated tree left done recorded =
    ap (known_of records) done
    ∙ ap (λ b. if b then Some (Known (reply_of tree) (steps_of tree) (injected_of tree)) else None)
    (contained_are_all same_record same_record-Decides (records_of tree) records recorded)

pub unknown_so : (records : List Record) (evaluated : Evaluation Tree ℕ)
    → ((tree : Tree) (left : ℕ) → evaluated ≡ Done tree left → ¬ (HoldsOfEach (Contains records) (records_of tree))) → known_of records evaluated ≡ None
unknown_so records Spent none = refl
unknown_so records Missing none = refl
unknown_so records (Done tree left) none = by (are_recorded records (records_of tree)) refl
  where
    by : (b : Bool) → are_recorded records (records_of tree) ≡ b → (if b then Some (Known (reply_of tree) (steps_of tree) (injected_of tree)) else None) ≡ None
    by true all = absurd (none tree left refl (all_are_contained same_record same_record-Decides (records_of tree) records all))
    by false all = refl

-- ---- answers

module _ (services : ServicesTree) (records : List Record) (limit : ℕ) (plan : List FaultOf) where
  abbrev pub ground : Ground
  ground = record { services = services; records = records; source = plan_source (kinds_given services) plan; limit = limit }

  abbrev evaluated : MethodId → List Value → List Occurrence → Evaluation Tree ℕ
  evaluated callee args index = method_meaning services (plan_source (kinds_given services) plan) limit callee args index

  pub answers_fault : (index : List Occurrence) (callee : MethodId) (args : List Value) (given : Reply)
      → plan_source (kinds_given services) plan index callee.0 args ≡ Some (Fault given) → stitched_source services records limit plan index callee.0 args ≡ Some (Fault given)
  unfolding stitched_source
  answers_fault index callee args given e = ap (λ d. fault_or d (known_of records (evaluated callee args index))) e

  -- elsewhere, what is known
  pub answers_known : (index : List Occurrence) (callee : MethodId) (args : List Value)
      → plan_source (kinds_given services) plan index callee.0 args ≡ Some Forward
      → stitched_source services records limit plan index callee.0 args ≡ known_of records (evaluated callee args index)
  unfolding stitched_source
  answers_known index callee args e = ap (λ d. fault_or d (known_of records (evaluated callee args index))) e

  -- what is evaluated and recorded is stitched
  pub evaluated_is_stitched : MethodsAreDecided → (callee : MethodId) (args : List Value) (index : List Occurrence) (tree : Tree) (left : ℕ)
      → evaluated callee args index ≡ Done tree left → HoldsOfEach (Contains records) (records_of tree) → IsStitched ground callee args index tree
  evaluated_is_stitched decided callee args index tree left done recorded =
      record { asked = decided services (plan_source (kinds_given services) plan) limit callee args index tree left done; recorded = recorded }

  module _ (decided : MethodsAreDecided) (law : (source : Source) (m : MethodId) (args : List Value) (index : List Occurrence) → FollowsFuel steps_of (λ fuel. method_meaning services source fuel m args index)) where
    pub none_answered : (index : List Occurrence) (callee : MethodId) (args : List Value)
        → plan_source (kinds_given services) plan index callee.0 args ≡ Some Forward
        → ((tree : Tree) → IsStitched ground callee args index tree → ¬ (steps_of tree ≤ limit))
        → stitched_source services records limit plan index callee.0 args ≡ None
    none_answered index callee args e none =
        answers_known index callee args e
        ∙ unknown_so records (evaluated callee args index)
        (λ tree left done recorded.
        let taken = (law (plan_source (kinds_given services) plan) callee args index).taken limit left tree done in
        none tree (evaluated_is_stitched decided callee args index tree left done recorded) (omega (arith, taken)))

    pub answers_no_method : IsSound ground → (index : List Occurrence) (callee : MethodId) (args : List Value)
        → plan_source (kinds_given services) plan index callee.0 args ≡ Some Forward → length (methods_of services) ≤ callee.0
        → stitched_source services records limit plan index callee.0 args ≡ None
    answers_no_method sound index callee args e past =
        none_answered index callee args e
        (λ tree stitched fits.
        let own = subst (HoldsOfEach (Contains records)) (records_parts tree) stitched.recorded in
        let there = sound.there (record_of tree) own.0 in
        let same = ap (λ (m : MethodId). m.0) stitched.asked.same_method in
        omega (arith, past, there, same))

    pub answers_none : (index : List Occurrence) (callee : MethodId) (args : List Value) (old new : Found) → old.steps ≡ 0
        → plan_source (kinds_given services) plan index callee.0 args ≡ Some Forward → FindsTree ground callee args index old new None
        → stitched_source services records limit plan index callee.0 args ≡ None
    answers_none index callee args old new zero e none =
        none_answered index callee args e (λ tree stitched fits. none tree stitched (omega (arith, zero, fits)))

  pub answers_tree : JoinedIsMade → AreTrueOf services records → (index : List Occurrence) (callee : MethodId) (args : List Value) (old new : Found) (given : Reply)
      → old.steps ≡ 0 → old.injected ≡ [] → plan_source (kinds_given services) plan index callee.0 args ≡ Some Forward → HasTree ground callee args index old new given
      → stitched_source services records limit plan index callee.0 args ≡ Some (Known given new.steps new.injected)
  answers_tree made truths index callee args old new given zero none e has =
      let steps : new.steps ≡ steps_of has.tree = (let s = has.adds.steps_are in omega (arith, s, zero)) in
      let injected : new.injected ≡ injected_of has.tree = has.adds.injected ∙ ap (λ before. before ++ injected_of has.tree) none in
      let w = has.within in
      let done = stitched_is_made made ground truths limit callee args index has.tree has.stitched (omega (arith, w, steps)) in
      answers_known index callee args e
      ∙ known_so records (evaluated callee args index) has.tree (limit - steps_of has.tree) done has.stitched.recorded
      ∙ ap (λ r. Some (Known r (steps_of has.tree) (injected_of has.tree))) has.replies
      ∙ ap (λ s. Some (Known given s (injected_of has.tree))) (sym steps)
      ∙ ap (λ j. Some (Known given new.steps j)) (sym injected)
