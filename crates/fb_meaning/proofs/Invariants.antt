-- What holds of a body when it begins, and is kept by each unit and each call, holds of it when it is done.
use Rattle.std.specs.Prelude.{◌≡◌, ℕ, suc, ◌-◌, ◌≤◌, nat_le, Bool, true, false, if◌then◌else◌, List, codes, Option, Some, None, ⊤}
use Rattle.std.proofs.Common.{refl, sym, ap, subst, arith}
use Rattle.std.proofs.lemmas.Bool.Decides.{nat_tests}
use Rattle.fb_base.specs.declared.method.MethodId.{MethodId}
use Rattle.fb_base.specs.declared.value.Value.{Value}
use Rattle.fb_base.specs.declared.reply.Reply.{Reply}
use Rattle.fb_base.specs.declared.reply.Reply.TheVariants as reply
use Rattle.fb_index.specs.Entry.{Occurrence}
use Rattle.fb_syntax.specs.Trees.{Expressions, Statement, MethodTree, ServicesTree, TestTree}
use Rattle.fb_check.specs.Programs.{method_at}
use Rattle.fb_tree.specs.Runs.{Tree, Invocation, NoCalls, Faulted, Ran, Known as KnownHow, TestRun}
use Rattle.fb_transport.specs.Sources.{Source}
use Rattle.fb_transport.specs.declared.decision.Decision.{Decision}
use Rattle.fb_transport.specs.declared.decision.Decision.TheVariants.{Forward, Fault, Known}
use Rattle.fb_meaning.specs.Evaluations.{Evaluation, Spent, Missing, Done, then_on, Flow, NamedValue, State, holding, begun, Going}
use Rattle.fb_meaning.specs.Positions.{Position, beginning}
use Rattle.fb_meaning.specs.Meaning.{meaning, method_meaning, test_meaning, test_frame, test_state, test_run_of, outcome_of_flow}
use Rattle.fb_meaning.specs.Bodies.{Frame, Meaning, PreparedCall, method_frame, method_state, invocation_of, body_goes, prepared, with_call, returned, decided_by, index_of_call, reply_of, reply_of_flow}
use Rattle.fb_meaning.proofs.Steps.{Kept, IsStepRelation, statements_keep, meaning_keeps}

abbrev pub Invariant : Type 1
Invariant = Frame → State → Type 0

-- what holds of an invocation of a method on arguments at an index
abbrev pub Property : Type 1
Property = MethodId → List Value → List Occurrence → Tree → Type 0

pub record IsInvariant (services : ServicesTree) (source : Source) (Holds : Invariant) (Has : Property) : Type 0 where
  pub assigned : (frame : Frame) (t : State) (variables : List NamedValue) → Holds frame t → Holds frame (holding variables t)
  pub unit : (frame : Frame) (t : State) (left : ℕ) → t.fuel ≡ suc left → Holds frame t → Holds frame (begun left t)
  pub starts : (method : MethodTree) (args : List Value) (index : List Occurrence) (fuel : ℕ) → Holds (method_frame index) (method_state method args fuel)
  pub ends : (m : MethodId) (args : List Value) (index : List Occurrence) (flow : Flow) (t : State) → Holds (method_frame index) t
      → Has m args index (Invocation m args t.calls (reply_of_flow flow) t.steps)
  pub without_body : (m : MethodId) (args : List Value) (index : List Occurrence) → Has m args index (Invocation m args NoCalls (reply.Err (codes "internal")) 0)
  pub faulted : (frame : Frame) (at : Position) (service method : List ℕ) (args : Expressions) (request : PreparedCall) (t : State) (left : ℕ) (got : Reply)
      → prepared services frame.whose at service method args (begun left t) ≡ Some request
      → source (index_of_call frame request) request.callee.0 request.args ≡ Some (Fault got)
      → Holds frame t → Holds frame (with_call (begun left t) request Faulted got left)
  pub ran : (frame : Frame) (at : Position) (service method : List ℕ) (args : Expressions) (request : PreparedCall) (t : State) (left : ℕ) (tree : Tree) (rest : ℕ)
      → prepared services frame.whose at service method args (begun left t) ≡ Some request
      → source (index_of_call frame request) request.callee.0 request.args ≡ Some Forward
      → Has request.callee request.args (index_of_call frame request) tree
      → Holds frame t → Holds frame (with_call (begun left t) request (Ran tree) (reply_of tree) rest)
  pub known : (frame : Frame) (at : Position) (service method : List ℕ) (args : Expressions) (request : PreparedCall) (t : State) (left : ℕ) (got : Reply) (steps : ℕ) (injected : List MethodId)
      → prepared services frame.whose at service method args (begun left t) ≡ Some request
      → source (index_of_call frame request) request.callee.0 request.args ≡ Some (Known got steps injected) → steps ≤ left
      → Holds frame t → Holds frame (with_call (begun left t) request (KnownHow steps injected) got (left - steps))

abbrev pub HoldsDone : (Tree → Type 0) → Evaluation Tree ℕ → Type 0
HoldsDone Has Spent = ⊤
HoldsDone Has Missing = ⊤
HoldsDone Has (Done tree left) = Has tree

module _ (services : ServicesTree) (source : Source) (Holds : Invariant) (Has : Property) (invariant : IsInvariant services source Holds Has) where
  record Stays (frame : Frame) (before after : State) : Type 0 where
    kept : Holds frame before → Holds frame after

  stays : (frame : Frame) → IsStepRelation (Stays frame)
  stays frame = record {
    same = λ t. record { kept = λ h. h };
    joined = λ a b c h k. record { kept = λ d. k.kept (h.kept d) };
    assigned = λ t variables. record { kept = invariant.assigned frame t variables };
    unit = λ t left is. record { kept = invariant.unit frame t left is };
  }

  module _ (run : Meaning) (keeps : (frame : Frame) (at : Position) (s : Statement) (t : State) → Kept (Stays frame) t (run frame at s t)) where
    of_end : (m : MethodId) (args : List Value) (index : List Occurrence) (t : State) (x : Going) → Kept (Stays (method_frame index)) t x
        → Holds (method_frame index) t → HoldsDone (Has m args index) (then_on x (invocation_of m args))
    of_end m args index t Spent h d = tt
    of_end m args index t Missing h d = tt
    of_end m args index t (Done flow u) h d = invariant.ends m args index flow u (h.kept d)

    of_body : (method : Option MethodTree) (m : MethodId) (args : List Value) (index : List Occurrence) (fuel : ℕ)
        → HoldsDone (Has m args index) (body_goes run method m args index fuel)
    of_body None m args index fuel = invariant.without_body m args index
    of_body (Some method) m args index fuel =
        of_end m args index (method_state method args fuel) _
        (statements_keep (Stays (method_frame index)) (stays (method_frame index)) run (method_frame index) (keeps (method_frame index))
        beginning method.body (method_state method args fuel)) (invariant.starts method args index fuel)

    module _ (frame : Frame) (at : Position) (service method : List ℕ) (args : Expressions) (request : PreparedCall) (t : State) (left : ℕ)
        (is : prepared services frame.whose at service method args (begun left t) ≡ Some request) where
      ran_holds : (x : Evaluation Tree ℕ) → source (index_of_call frame request) request.callee.0 request.args ≡ Some Forward
          → HoldsDone (Has request.callee request.args (index_of_call frame request)) x
          → Kept (Stays frame) t (then_on x (λ tree rest. returned (begun left t) request (Ran tree) (reply_of tree) rest))
      ran_holds Spent e h = tt
      ran_holds Missing e h = tt
      ran_holds (Done tree rest) e h = record { kept = invariant.ran frame at service method args request t left tree rest is e h }

      known_holds : (got : Reply) (steps : ℕ) (injected : List MethodId) (fits : Bool) → nat_le steps left ≡ fits
          → source (index_of_call frame request) request.callee.0 request.args ≡ Some (Known got steps injected)
          → Kept (Stays frame) t (if fits then returned (begun left t) request (KnownHow steps injected) got (left - steps) else Spent)
      known_holds got steps injected false f e = tt
      known_holds got steps injected true f e =
          record { kept = invariant.known frame at service method args request t left got steps injected is e (grind (arith, nat_tests)) }

      decision_holds : (decision : Option Decision) → source (index_of_call frame request) request.callee.0 request.args ≡ decision
          → Kept (Stays frame) t (decided_by services run (index_of_call frame request) decision request (begun left t))
      decision_holds None e = tt
      decision_holds (Some Forward) e =
          ran_holds _ e (of_body (method_at services request.callee.0) request.callee request.args (index_of_call frame request) left)
      decision_holds (Some (Fault got)) e = record { kept = invariant.faulted frame at service method args request t left got is e }
      decision_holds (Some (Known got steps injected)) e = known_holds got steps injected (nat_le steps left) refl e

  meaning_stays : (frame : Frame) (at : Position) (s : Statement) (t : State) → Kept (Stays frame) t (meaning services source frame at s t)
  meaning_stays =
      meaning_keeps Stays stays services source
      (λ run keeps frame at service method args request t left e is. decision_holds run keeps frame at service method args request t left is _ refl)

  -- each invocation that is done has the property
  pub method_has : (fuel : ℕ) (m : MethodId) (args : List Value) (index : List Occurrence) (tree : Tree) (left : ℕ)
      → method_meaning services source fuel m args index ≡ Done tree left → Has m args index tree
  unfolding method_meaning
  method_has fuel m args index tree left e =
      subst (HoldsDone (Has m args index)) e (of_body (meaning services source) meaning_stays (method_at services m.0) m args index fuel)

  test_ends : (t : State) (x : Going) (run : TestRun) (left : ℕ) → Kept (Stays test_frame) t x → Holds test_frame t → then_on x test_run_of ≡ Done run left
      → (flow : Flow) × (u : State) × (x ≡ Done flow u) × Holds test_frame u × (run.calls ≡ u.calls) × (run.steps ≡ u.steps)
  test_ends t Spent run left h d e = absurd (cc)
  test_ends t Missing run left h d e = absurd (cc)
  test_ends t (Done flow u) run left h d e =
      let same : record { calls = u.calls; outcome = outcome_of_flow flow; steps = u.steps } ≡ run = cc in
      (flow, u, refl, h.kept d, sym (ap (λ r. r.calls) same), sym (ap (λ r. r.steps) same))

  -- and so is the state in which a test is done
  pub test_has : (test : TestTree) (fuel : ℕ) (run : TestRun) (left : ℕ) → Holds test_frame (test_state fuel) → test_meaning services test source fuel ≡ Done run left
      → (u : State) × Holds test_frame u × (run.calls ≡ u.calls) × (run.steps ≡ u.steps)
  unfolding test_meaning
  test_has test fuel run left h e =
      let found = test_ends (test_state fuel) _ run left
      (statements_keep (Stays test_frame) (stays test_frame) (meaning services source) test_frame (meaning_stays test_frame) beginning test.body (test_state fuel)) h e in
      (found.1, found.3, found.4, found.5)
