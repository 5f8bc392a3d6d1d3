-- Each invocation below a run was evaluated, so its record is made again.
use Rattle.std.specs.Prelude.{◌≡◌, ℕ, zero, suc, ◌-◌, ◌<◌, ◌≤◌, nat_le, Bool, true, false, if◌then◌else◌, List, [], ◌∷◌, ◌++◌, codes, Option, Some, None, ⊤}
use Rattle.std.proofs.Common.{refl, sym, subst, arith}
use Rattle.fb_base.specs.declared.method.MethodId.{MethodId}
use Rattle.fb_base.specs.declared.value.Value.{Value}
use Rattle.fb_base.specs.declared.reply.Reply.{Reply}
use Rattle.fb_base.specs.declared.reply.Reply.TheVariants as reply
use Rattle.fb_index.specs.Entry.{Occurrence}
use Rattle.fb_syntax.specs.Trees.{Statement, MethodTree, ServicesTree, TestTree}
use Rattle.fb_check.specs.Programs.{method_at}
use Rattle.fb_tree.specs.Runs.{Tree, Invocation, CallList, NoCalls, AndCall, How, Faulted, Ran, Known as KnownHow, TestRun}
use Rattle.fb_tree.specs.Records.{record_of, records_of, records_in, records_below}
use Rattle.fb_tree.specs.declared.asked.Asked.{Asked}
use Rattle.fb_transport.specs.Sources.{Source}
use Rattle.fb_transport.specs.declared.decision.Decision.{Decision}
use Rattle.fb_transport.specs.declared.decision.Decision.TheVariants.{Forward, Fault, Known}
use Rattle.fb_meaning.specs.Evaluations.{Evaluation, Spent, Missing, Done, then_on, Flow, State, begun, Going, with_unit_of}
use Rattle.fb_meaning.specs.Positions.{Position, beginning}
use Rattle.fb_meaning.specs.Meaning.{meaning, method_meaning, test_meaning, test_frame, test_state}
use Rattle.fb_meaning.specs.Bodies.{Frame, PreparedCall, method_frame, method_state, body_goes, method_goes, returned, decided, decided_by, index_of_call, reply_of, act}
use Rattle.fb_meaning.specs.Each.{HoldsOfEach}
use Rattle.fb_meaning.specs.Parting.{calls_in}
use Rattle.fb_meaning.proofs.Steps.{Kept, IsStepRelation, act_keeps, statements_keep}
use Rattle.fb_meaning.proofs.Units.{TakesUnits, call_takes, meaning_takes}
use Rattle.fb_meaning.proofs.Bounds.{meaning_rule}
use Rattle.fb_meaning.proofs.DecidedRuns.{IsMadeSo}
use Rattle.fb_meaning.proofs.MadeAgain.{made_by, test_made_by, records_are_made_again}
use Rattle.fb_meaning.proofs.PlacedCalls.{each_joined}

module _ (services : ServicesTree) (source : Source) where
  -- a callee that ran was evaluated with some fuel
  abbrev pub IsEvaluated : List Occurrence → Asked → How → Type 0
  IsEvaluated index asked Faulted = ⊤
  IsEvaluated index asked (Ran tree) = (fuel : ℕ) × (left : ℕ) × (method_meaning services source fuel asked.callee asked.args index ≡ Done tree left)
  IsEvaluated index asked (KnownHow steps injected) = ⊤

  -- the same of all calls of a body at this index
  abbrev pub AreEvaluated : List Occurrence → CallList → Type 0
  AreEvaluated index NoCalls = ⊤
  AreEvaluated index (AndCall before asked how) = AreEvaluated index before × IsEvaluated (index ++ asked.entry ∷ []) asked how

  -- with less fuel than the bound, more such calls are made
  record MakesEvaluated (bound : ℕ) (frame : Frame) (before after : State) : Type 0 where
    kept : before.fuel < bound → AreEvaluated frame.index before.calls → AreEvaluated frame.index after.calls
    less : after.fuel ≤ before.fuel

  makes_evaluated : (bound : ℕ) (frame : Frame) → IsStepRelation (MakesEvaluated bound frame)
  makes_evaluated bound frame = record {
    same = λ t. record { kept = λ small h. h; less = omega arith };
    joined = λ a b c h k. record { kept = λ small e. k.kept (omega (arith, small, h.less)) (h.kept small e); less = omega (arith, h.less, k.less) };
    assigned = λ t variables. record { kept = λ small h. h; less = omega arith };
    unit = λ t left is. record { kept = λ small h. h; less = omega (arith, is) };
  }

  -- ---- calls

  abbrev MoreEvaluated : {A : Type 0} → Frame → State → Evaluation A State → Type 0
  MoreEvaluated frame t Spent = ⊤
  MoreEvaluated frame t Missing = ⊤
  MoreEvaluated frame t (Done what u) = AreEvaluated frame.index t.calls → AreEvaluated frame.index u.calls

  made_evaluated : {A : Type 0} (bound : ℕ) (frame : Frame) (t : State) (x : Evaluation A State) → MoreEvaluated frame t x → Kept TakesUnits t x → Kept (MakesEvaluated bound frame) t x
  made_evaluated bound frame t Spent h k = tt
  made_evaluated bound frame t Missing h k = tt
  made_evaluated bound frame t (Done what u) h k = record { kept = λ small e. h e; less = k.left }

  module _ (frame : Frame) (request : PreparedCall) (t : State) where
    ran_evaluated : (x : Evaluation Tree ℕ) → method_goes services (meaning services source) request.callee request.args (index_of_call frame request) t.fuel ≡ x
        → MoreEvaluated frame t (then_on x (λ tree left. returned t request (Ran tree) (reply_of tree) left))
    unfolding method_meaning
    ran_evaluated Spent e = tt
    ran_evaluated Missing e = tt
    ran_evaluated (Done tree left) e = λ h. (h, (t.fuel, left, e))

    known_evaluated : (got : Reply) (steps : ℕ) (injected : List MethodId) (fits : Bool)
        → MoreEvaluated frame t (if fits then returned t request (KnownHow steps injected) got (t.fuel - steps) else Spent)
    known_evaluated got steps injected false = tt
    known_evaluated got steps injected true = λ h. (h, tt)

    decision_evaluated : (decision : Option Decision) → MoreEvaluated frame t (decided_by services (meaning services source) (index_of_call frame request) decision request t)
    decision_evaluated None = tt
    decision_evaluated (Some Forward) = ran_evaluated _ refl
    decision_evaluated (Some (Fault got)) = λ h. (h, tt)
    decision_evaluated (Some (Known got steps injected)) = known_evaluated got steps injected (nat_le steps t.fuel)

    call_evaluated : (bound : ℕ) → Kept (MakesEvaluated bound frame) t (decided services source (meaning services source) frame request t)
    call_evaluated bound =
        made_evaluated bound frame t _ (decision_evaluated _) (call_takes services source (meaning services source) (meaning_takes services source) frame request t)

  -- ---- statements

  none_below : {A : Type 0} (frame : Frame) (t : State) (x : Evaluation A State) → Kept TakesUnits t x → Kept (MakesEvaluated zero frame) t x
  none_below frame t Spent k = tt
  none_below frame t Missing k = tt
  none_below frame t (Done what u) k = record { kept = λ small. absurd (omega (arith, small)); less = k.left }

  after_unit : {A : Type 0} (bound : ℕ) (frame : Frame) (t : State) (left : ℕ) (x : Evaluation A State) → t.fuel ≡ suc left
      → Kept (MakesEvaluated bound frame) (begun left t) x → Kept (MakesEvaluated (suc bound) frame) t x
  after_unit bound frame t left Spent e h = tt
  after_unit bound frame t left Missing e h = tt
  after_unit bound frame t left (Done what u) e h = record { kept = λ small k. h.kept (omega (arith, small, e)) k; less = omega (arith, h.less, e) }

  unit_evaluated : (bound : ℕ) (frame : Frame) (t : State) (go : State → Going) (fuel : ℕ) → t.fuel ≡ fuel
      → ((u : State) → Kept (MakesEvaluated bound frame) u (go u)) → Kept (MakesEvaluated (suc bound) frame) t (with_unit_of t go fuel)
  unit_evaluated bound frame t go zero e h = tt
  unit_evaluated bound frame t go (suc left) e h = after_unit bound frame t left (go (begun left t)) e (h (begun left t))

  runs_evaluated : (bound : ℕ) (frame : Frame) (at : Position) (s : Statement) (t : State) → Kept (MakesEvaluated bound frame) t (meaning services source frame at s t)
  runs_evaluated zero frame at s t = none_below frame t (meaning services source frame at s t) (meaning_takes services source frame at s t)
  runs_evaluated (suc bound) frame at s t =
      subst (Kept (MakesEvaluated (suc bound) frame) t) (sym (meaning_rule services source frame at s t))
      (unit_evaluated bound frame t (act services source (meaning services source) frame at s) t.fuel refl
      (λ u. act_keeps (MakesEvaluated bound frame) (makes_evaluated bound frame) (meaning services source) frame (runs_evaluated bound frame) services source
      u u ((makes_evaluated bound frame).same u) at (λ service method args request is. call_evaluated frame request u bound) s))

  -- ---- bodies

  done_evaluated : (bound : ℕ) (frame : Frame) (t u : State) (x : Going) (flow : Flow) → Kept (MakesEvaluated bound frame) t x → x ≡ Done flow u → t.fuel < bound
      → AreEvaluated frame.index t.calls → AreEvaluated frame.index u.calls
  done_evaluated bound frame t u x flow h e small = (subst (Kept (MakesEvaluated bound frame) t) e h).kept small

  body_evaluated : (method : Option MethodTree) (m : MethodId) (args : List Value) (index : List Occurrence) (fuel : ℕ) (tree : Tree) (left : ℕ)
      → body_goes (meaning services source) method m args index fuel ≡ Done tree left → AreEvaluated index (calls_in tree)
  body_evaluated None m args index fuel tree left e =
      let is : Invocation m args NoCalls (reply.Err (codes "internal")) 0 ≡ tree = cc in
      subst (λ (t : Tree). AreEvaluated index (calls_in t)) is tt
  body_evaluated (Some method) m args index fuel tree left e =
      let by = made_by m args _ tree left e in
      subst (λ (t : Tree). AreEvaluated index (calls_in t)) (sym by.made)
      (done_evaluated (suc fuel) (method_frame index) (method_state method args fuel) by.after _ by.flow
      (statements_keep (MakesEvaluated (suc fuel) (method_frame index)) (makes_evaluated (suc fuel) (method_frame index)) (meaning services source) (method_frame index)
      (runs_evaluated (suc fuel) (method_frame index)) beginning method.body (method_state method args fuel)) by.done (omega arith) tt)

  pub method_evaluated : (fuel : ℕ) (m : MethodId) (args : List Value) (index : List Occurrence) (tree : Tree) (left : ℕ)
      → method_meaning services source fuel m args index ≡ Done tree left → AreEvaluated index (calls_in tree)
  unfolding method_meaning
  method_evaluated fuel m args index tree left e = body_evaluated (method_at services m.0) m args index fuel tree left e

  pub test_evaluated : (test : TestTree) (fuel : ℕ) (run : TestRun) (left : ℕ) → test_meaning services test source fuel ≡ Done run left → AreEvaluated [] run.calls
  unfolding test_meaning
  test_evaluated test fuel run left e =
      let by = test_made_by _ run left e in
      subst (λ (r : TestRun). AreEvaluated [] r.calls) (sym by.made)
      (done_evaluated (suc fuel) test_frame (test_state fuel) by.after _ by.flow
      (statements_keep (MakesEvaluated (suc fuel) test_frame) (makes_evaluated (suc fuel) test_frame) (meaning services source) test_frame
      (runs_evaluated (suc fuel) test_frame) beginning test.body (test_state fuel)) by.done (omega arith) tt)

  -- ---- records

  record_made : (tree : Tree) (index : List Occurrence) (asked : Asked) → IsEvaluated index asked (Ran tree) → IsMadeSo services (record_of tree)
  record_made tree index asked is =
      ((record_of tree).steps, records_are_made_again services source is.0 (record_of tree).steps asked.callee asked.args index tree is.1 is.2 (omega arith))

  mutual
    unfolding records_of

    pub made_within : (index : List Occurrence) (calls : CallList) → AreEvaluated index calls → HoldsOfEach (IsMadeSo services) (records_in calls)
    made_within index NoCalls h = tt
    made_within index (AndCall before asked how) h =
        each_joined (IsMadeSo services) (records_in before) (records_below how) (made_within index before h.0) (made_below (index ++ asked.entry ∷ []) asked how h.1)

    made_below : (index : List Occurrence) (asked : Asked) (how : How) → IsEvaluated index asked how → HoldsOfEach (IsMadeSo services) (records_below how)
    made_below index asked Faulted h = tt
    made_below index asked (Ran (Invocation m args calls answer steps)) h = (
      record_made (Invocation m args calls answer steps) index asked h,
      made_within index calls (method_evaluated h.0 asked.callee asked.args index (Invocation m args calls answer steps) h.1 h.2),
    )
    made_below index asked (KnownHow steps injected) h = tt

  -- each invocation of a run makes its record by its own replies
  pub run_made : (test : TestTree) (fuel : ℕ) (run : TestRun) (left : ℕ) → test_meaning services test source fuel ≡ Done run left → HoldsOfEach (IsMadeSo services) (records_in run.calls)
  run_made test fuel run left e = made_within [] run.calls (test_evaluated test fuel run left e)
