-- Two runs of a test are the same, or part ways at a call that was answered differently.
use Rattle.std.specs.Prelude.{◌≡◌, ◌⊎◌, ℕ, zero, suc, ◌<◌, Bool, true, false, List, [], ◌++◌, Option, Some, None, ⊤}
use Rattle.std.specs.Bool.{Decides}
use Rattle.std.proofs.Common.{refl, sym, ap, ◌∙◌, subst, arith, inl, inr}
use Rattle.fb_base.specs.declared.method.MethodId.{MethodId}
use Rattle.fb_base.specs.declared.value.Value.{Value}
use Rattle.fb_base.specs.declared.reply.Reply.{Reply}
use Rattle.fb_base.specs.Replies.{same_reply, same_reply-Decides}
use Rattle.fb_index.specs.Entry.{Occurrence}
use Rattle.fb_syntax.specs.Trees.{Statement, Statements, MethodTree, ServicesTree}
use Rattle.fb_check.specs.Programs.{method_at}
use Rattle.fb_tree.specs.Runs.{Tree, Invocation, CallList, AndCall, Faulted, Ran, TestRun}
use Rattle.fb_tree.specs.Calls.{calls_at}
use Rattle.fb_transport.specs.Sources.{Source, injected_at, fault_or_forward}
use Rattle.fb_transport.specs.declared.decision.Decision.{Decision}
use Rattle.fb_transport.specs.declared.decision.Decision.TheVariants.{Forward, Fault}
use Rattle.fb_meaning.specs.Evaluations.{Evaluation, Spent, Missing, Done, then_on, Flow, State, holding, begun, Going, with_unit, with_unit_of}
use Rattle.fb_meaning.specs.Positions.{Position, beginning}
use Rattle.fb_meaning.specs.Meaning.{meaning, test_meaning, test_frame, test_state, test_run_of, outcome_of_flow}
use Rattle.fb_meaning.specs.Bodies.{Whose, Frame, PreparedCall, questions, statements_go, method_frame, method_state, invocation_of, body_goes, returned, decided, decided_by, index_of_call, with_call, asked_and_got, reply_of, reply_of_flow, act}
use Rattle.fb_meaning.specs.CallLaws.{Answer, extended}
use Rattle.fb_meaning.specs.Parting.{AskTheSame, PartWays, PartHere, PartBelow, calls_in, OnlyFails, PlansOnlyFail, RunsGoAlike}
use Rattle.fb_meaning.proofs.Steps.{Kept}
use Rattle.fb_meaning.proofs.Pairs.{IsPairing, statements_alike, act_alike}
use Rattle.fb_meaning.proofs.Meetings.{Ends, GoOn, Part, IsMeeting, Meet, then_meets, wider_meet}
use Rattle.fb_meaning.proofs.Extensions.{extended_more}
use Rattle.fb_meaning.proofs.SameReplies.{GoesFurther, goes_further, meaning_goes_further, call_goes_further}
use Rattle.fb_meaning.proofs.Bounds.{meaning_rule}

-- ---- what parted stays so

part_later : (calls others : CallList) (added other_added : List Answer) → PartWays calls others → PartWays (extended calls added) (extended others other_added)
part_later calls others added other_added (PartHere before asked other how other_how more other_more e f same differ) =
    PartHere before asked other how other_how (more ++ added) (other_more ++ other_added)
    (ap (λ c. extended c added) e ∙ extended_more (AndCall before asked how) more added)
    (ap (λ c. extended c other_added) f ∙ extended_more (AndCall before other other_how) other_more other_added) same differ
part_later calls others added other_added (PartBelow before asked other tree other_tree more other_more e f same below) =
    PartBelow before asked other tree other_tree (more ++ added) (other_more ++ other_added)
    (ap (λ c. extended c added) e ∙ extended_more (AndCall before asked (Ran tree)) more added)
    (ap (λ c. extended c other_added) f ∙ extended_more (AndCall before other (Ran other_tree)) other_more other_added) same below

pub record Parted (t u : State) : Type 0 where
  pub ways : PartWays t.calls u.calls

abbrev Always : State → State → Type 0
Always t u = ⊤

parting : IsMeeting GoesFurther Always Parted
parting = record {
  before = λ t u a b h j guard. tt;
  later = λ t u a b h j apart. record {
    ways = subst (λ c. PartWays c b.calls) (sym h.calls.calls.1)
        (subst (PartWays (extended t.calls h.calls.calls.0)) (sym j.calls.calls.1) (part_later t.calls u.calls h.calls.calls.0 j.calls.calls.0 apart.ways));
  };
}

-- one state, with less fuel than the bound
pub record AreEqual (bound : ℕ) (t u : State) : Type 0 where
  pub same : t ≡ u
  pub small : t.fuel < bound

abbrev MeetBelow : ℕ → {A : Type 0} → Evaluation A State → Evaluation A State → Type 0
MeetBelow bound = Meet GoesFurther Always (AreEqual bound) Parted

wider_equal : (bound : ℕ) (t u : State) → AreEqual bound t u → AreEqual (suc bound) t u
wider_equal bound t u h = record { same = h.same; small = omega (arith, h.small) }

unit_meets : (bound : ℕ) (t : State) (go along : State → Going) (fuel : ℕ) → t.fuel ≡ fuel → t.fuel < suc bound
    → ((a b : State) → AreEqual bound a b → MeetBelow bound (go a) (along b)) → MeetBelow bound (with_unit_of t go fuel) (with_unit_of t along fuel)
unit_meets bound t go along zero e h m = tt
unit_meets bound t go along (suc left) e h m = m (begun left t) (begun left t) (record { same = refl; small = omega (arith, e, h) })

equal_meets : (bound : ℕ) (whose : Whose) → IsPairing GoesFurther whose (AreEqual bound) (MeetBelow bound)
equal_meets bound whose = record {
  variables = λ t u h. ap (λ s. s.variables) h.same;
  asks = λ t u h. ap (λ s. questions whose s.calls) h.same;
  counts = λ t u h site. ap (λ s. calls_at site s.calls) h.same;
  assigned = λ t u variables h. record { same = ap (holding variables) h.same; small = h.small };
  done = λ flow t u h _. GoOn refl h;
  unit = λ t u go along h _ _ m.
      subst (λ v. MeetBelow bound (with_unit t go) (with_unit v along)) h.same (unit_meets bound t go along t.fuel refl (omega (arith, h.small)) m);
  on = λ x y after along m h j go. then_meets GoesFurther Always (AreEqual bound) Parted parting x y after along h j m go;
}

-- ---- invocations

-- two invocations are one, with the same fuel left, or part ways
abbrev TreesMeet : Evaluation Tree ℕ → Evaluation Tree ℕ → Type 0
TreesMeet (Done tree left) (Done other rest) = ((tree ≡ other) × (left ≡ rest)) ⊎ PartWays (calls_in tree) (calls_in other)
TreesMeet _ _ = ⊤

bodies_end : (bound : ℕ) (m : MethodId) (args : List Value) (x y : Going) → MeetBelow bound x y → TreesMeet (then_on x (invocation_of m args)) (then_on y (invocation_of m args))
bodies_end bound m args Spent y h = tt
bodies_end bound m args Missing y h = tt
bodies_end bound m args (Done f t) Spent h = tt
bodies_end bound m args (Done f t) Missing h = tt
bodies_end bound m args (Done f t) (Done g u) h = of_ends (h tt)
  where
    of_ends : Ends (AreEqual bound) Parted f g t u → TreesMeet (then_on (Done f t) (invocation_of m args)) (then_on (Done g u) (invocation_of m args))
    of_ends (GoOn e same) = inl (
      ap (λ flow. Invocation m args t.calls (reply_of_flow flow) t.steps) e
          ∙ ap (λ s. Invocation m args s.calls (reply_of_flow g) s.steps) same.same,
      ap (λ s. s.fuel) same.same,
    )
    of_ends (Part apart) = inr apart.ways

-- ---- calls

module _ (bound : ℕ) (request : PreparedCall) (t : State) (small : t.fuel < bound) where
  same_request : (got given : Reply) → AskTheSame (asked_and_got request got) (asked_and_got request given)
  same_request got given = record { same_entry = refl; same_callee = refl; same_args = refl }

  both_ran : (x y : Evaluation Tree ℕ) → Kept GoesFurther t (then_on x (λ tree left. returned t request (Ran tree) (reply_of tree) left)) → TreesMeet x y
      → MeetBelow bound (then_on x (λ tree left. returned t request (Ran tree) (reply_of tree) left)) (then_on y (λ tree left. returned t request (Ran tree) (reply_of tree) left))
  both_ran Spent y kept h = tt
  both_ran Missing y kept h = tt
  both_ran (Done tree left) Spent kept h = tt
  both_ran (Done tree left) Missing kept h = tt
  both_ran (Done tree left) (Done other rest) kept (inl same) = λ _.
      GoOn (ap reply_of same.0) (record {
        same = ap (λ of. with_call t request (Ran of) (reply_of of) left) same.0 ∙ ap (λ n. with_call t request (Ran other) (reply_of other) n) same.1;
        small = omega (arith, kept.units.left, small);
      })
  both_ran (Done tree left) (Done other rest) kept (inr apart) = λ _.
      Part (record {
        ways = PartBelow t.calls (asked_and_got request (reply_of tree)) (asked_and_got request (reply_of other)) tree other [] [] refl refl
            (same_request (reply_of tree) (reply_of other)) apart;
      })

  ran_and_failed : (x : Evaluation Tree ℕ) (given : Reply)
      → MeetBelow bound (then_on x (λ tree left. returned t request (Ran tree) (reply_of tree) left)) (returned t request Faulted given t.fuel)
  ran_and_failed Spent given = tt
  ran_and_failed Missing given = tt
  ran_and_failed (Done tree left) given = λ _.
      Part (record {
        ways = PartHere t.calls (asked_and_got request (reply_of tree)) (asked_and_got request given) (Ran tree) Faulted [] [] refl refl
            (same_request (reply_of tree) given) (λ e. cc);
      })

  failed_and_ran : (x : Evaluation Tree ℕ) (given : Reply)
      → MeetBelow bound (returned t request Faulted given t.fuel) (then_on x (λ tree left. returned t request (Ran tree) (reply_of tree) left))
  failed_and_ran Spent given = tt
  failed_and_ran Missing given = tt
  failed_and_ran (Done tree left) given = λ _.
      Part (record {
        ways = PartHere t.calls (asked_and_got request given) (asked_and_got request (reply_of tree)) Faulted (Ran tree) [] [] refl refl
            (same_request given (reply_of tree)) (λ e. cc);
      })

  both_failed : (got given : Reply) (same : Bool) → Decides same (got ≡ given)
      → MeetBelow bound (returned t request Faulted got t.fuel) (returned t request Faulted given t.fuel)
  both_failed got given true h = λ _. GoOn (h.0 refl) (record { same = ap (λ r. with_call t request Faulted r t.fuel) (h.0 refl); small = small })
  both_failed got given false h = λ _.
      Part (record {
        ways = PartHere t.calls (asked_and_got request got) (asked_and_got request given) Faulted Faulted [] [] refl refl
            (same_request got given) (λ e. let differ : false ≡ true = h.1 (cc) in cc);
      })

-- ---- runs

abbrev run_so : Flow → State → TestRun
run_so flow t = record { calls = t.calls; outcome = outcome_of_flow flow; steps = t.steps }

-- what a source that only lets calls be made or fail decides
abbrev IsMadeOrFails : Option Decision → Type 0
IsMadeOrFails decision = (decision ≡ Some Forward) ⊎ ((given : Reply) × (decision ≡ Some (Fault given)))

module _ (services : ServicesTree) (one other : Source) (one_fails : OnlyFails one) (other_fails : OnlyFails other) where
  abbrev RunsMeet : ℕ → Type 0
  RunsMeet bound = (frame : Frame) (at : Position) (s : Statement) (t u : State) → AreEqual bound t u
      → MeetBelow bound (meaning services one frame at s t) (meaning services other frame at s u)

  module _ (bound : ℕ) (runs : RunsMeet bound) where
    statements_meet : (frame : Frame) (at : Position) (ss : Statements) (t : State) → t.fuel < bound
        → MeetBelow bound (statements_go (meaning services one) frame at ss t) (statements_go (meaning services other) frame at ss t)
    statements_meet frame at ss t small =
        statements_alike GoesFurther goes_further frame.whose (AreEqual bound) (MeetBelow bound) (equal_meets bound frame.whose)
        (meaning services one) (meaning services other) frame.index frame.index
        (meaning_goes_further services one frame) (meaning_goes_further services other frame) (runs frame)
        at ss t t (record { same = refl; small = small })

    trees_meet : (method : Option MethodTree) (m : MethodId) (args : List Value) (index : List Occurrence) (fuel : ℕ) → fuel < bound
        → TreesMeet (body_goes (meaning services one) method m args index fuel) (body_goes (meaning services other) method m args index fuel)
    trees_meet None m args index fuel small = inl (refl, refl)
    trees_meet (Some method) m args index fuel small =
        bodies_end bound m args _ _ (statements_meet (method_frame index) beginning method.body (method_state method args fuel) small)

    decisions_meet : (frame : Frame) (request : PreparedCall) (t : State) (small : t.fuel < bound) (first second : Option Decision)
        → IsMadeOrFails first → IsMadeOrFails second
        → Kept GoesFurther t (decided_by services (meaning services one) (index_of_call frame request) first request t)
        → MeetBelow bound (decided_by services (meaning services one) (index_of_call frame request) first request t)
        (decided_by services (meaning services other) (index_of_call frame request) second request t)
    decisions_meet frame request t small first second (inl e) (inl f) kept =
        let made : Evaluation Tree ℕ = body_goes (meaning services one) (method_at services request.callee.0) request.callee request.args (index_of_call frame request) t.fuel in
        let also : Evaluation Tree ℕ = body_goes (meaning services other) (method_at services request.callee.0) request.callee request.args (index_of_call frame request) t.fuel in
        subst (λ d. MeetBelow bound (decided_by services (meaning services one) (index_of_call frame request) d request t)
        (decided_by services (meaning services other) (index_of_call frame request) second request t)) (sym e)
        (subst (λ d. MeetBelow bound (decided_by services (meaning services one) (index_of_call frame request) (Some Forward) request t)
        (decided_by services (meaning services other) (index_of_call frame request) d request t)) (sym f)
        (both_ran bound request t small made also
        (subst (λ d. Kept GoesFurther t (decided_by services (meaning services one) (index_of_call frame request) d request t)) e kept)
        (trees_meet (method_at services request.callee.0) request.callee request.args (index_of_call frame request) t.fuel small)))
    decisions_meet frame request t small first second (inl e) (inr f) kept =
        subst (λ d. MeetBelow bound (decided_by services (meaning services one) (index_of_call frame request) d request t)
        (decided_by services (meaning services other) (index_of_call frame request) second request t)) (sym e)
        (subst (λ d. MeetBelow bound (decided_by services (meaning services one) (index_of_call frame request) (Some Forward) request t)
        (decided_by services (meaning services other) (index_of_call frame request) d request t)) (sym f.1)
        (ran_and_failed bound request t small _ f.0))
    decisions_meet frame request t small first second (inr e) (inl f) kept =
        subst (λ d. MeetBelow bound (decided_by services (meaning services one) (index_of_call frame request) d request t)
        (decided_by services (meaning services other) (index_of_call frame request) second request t)) (sym e.1)
        (subst (λ d. MeetBelow bound (decided_by services (meaning services one) (index_of_call frame request) (Some (Fault e.0)) request t)
        (decided_by services (meaning services other) (index_of_call frame request) d request t)) (sym f)
        (failed_and_ran bound request t small _ e.0))
    decisions_meet frame request t small first second (inr e) (inr f) kept =
        subst (λ d. MeetBelow bound (decided_by services (meaning services one) (index_of_call frame request) d request t)
        (decided_by services (meaning services other) (index_of_call frame request) second request t)) (sym e.1)
        (subst (λ d. MeetBelow bound (decided_by services (meaning services one) (index_of_call frame request) (Some (Fault e.0)) request t)
        (decided_by services (meaning services other) (index_of_call frame request) d request t)) (sym f.1)
        (both_failed bound request t small e.0 f.0 (same_reply e.0 f.0) (same_reply-Decides e.0 f.0)))

    calls_meet : (frame : Frame) (request : PreparedCall) (t u : State) → AreEqual bound t u
        → MeetBelow bound (decided services one (meaning services one) frame request t) (decided services other (meaning services other) frame request u)
    calls_meet frame request t u h =
        subst (λ v. MeetBelow bound (decided services one (meaning services one) frame request t) (decided services other (meaning services other) frame request v)) h.same
        (decisions_meet frame request t h.small _ _
        (one_fails (index_of_call frame request) request.callee.0 request.args) (other_fails (index_of_call frame request) request.callee.0 request.args)
        (call_goes_further services one frame request t))

    acts_meet : (frame : Frame) (at : Position) (s : Statement) (t u : State) → AreEqual bound t u
        → MeetBelow bound (act services one (meaning services one) frame at s t) (act services other (meaning services other) frame at s u)
    acts_meet frame at s t u h =
        act_alike GoesFurther goes_further frame.whose (AreEqual bound) (MeetBelow bound) (equal_meets bound frame.whose)
        (meaning services one) (meaning services other) frame.index frame.index
        (meaning_goes_further services one frame) (meaning_goes_further services other frame) (runs frame) services one other
        (λ request a b go more same keeps also_keeps m.
        then_meets GoesFurther Always (AreEqual bound) Parted parting _ _ go more keeps also_keeps (calls_meet frame request a b same) m)
        at s t u h

  abbrev does : Frame → Position → Statement → State → Going
  does = act services one (meaning services one)

  abbrev also_does : Frame → Position → Statement → State → Going
  also_does = act services other (meaning services other)

  runs_meet : (bound : ℕ) → RunsMeet bound
  runs_meet zero frame at s t u h = absurd (omega (arith, h.small))
  runs_meet (suc bound) frame at s t u h =
      subst (λ v. MeetBelow (suc bound) (meaning services one frame at s t) (meaning services other frame at s v)) h.same
      (subst (λ x. MeetBelow (suc bound) x (meaning services other frame at s t)) (sym (meaning_rule services one frame at s t))
      (subst (MeetBelow (suc bound) (with_unit t (does frame at s))) (sym (meaning_rule services other frame at s t))
      (wider_meet GoesFurther Always (AreEqual bound) (AreEqual (suc bound)) Parted (wider_equal bound) (with_unit t (does frame at s)) (with_unit t (also_does frame at s))
      (unit_meets bound t (does frame at s) (also_does frame at s) t.fuel refl h.small (acts_meet bound (runs_meet bound) frame at s)))))

  tests_end : (bound : ℕ) (x y : Going) (first second : TestRun) (left rest : ℕ) → then_on x test_run_of ≡ Done first left → then_on y test_run_of ≡ Done second rest
      → MeetBelow bound x y → (first ≡ second) ⊎ PartWays first.calls second.calls
  tests_end bound Spent y first second left rest e f m = absurd (cc)
  tests_end bound Missing y first second left rest e f m = absurd (cc)
  tests_end bound (Done a t) Spent first second left rest e f m = absurd (cc)
  tests_end bound (Done a t) Missing first second left rest e f m = absurd (cc)
  tests_end bound (Done a t) (Done b u) first second left rest e f m = of_ends (m tt)
    where
      of_ends : Ends (AreEqual bound) Parted a b t u → (first ≡ second) ⊎ PartWays first.calls second.calls
      of_ends (GoOn same alike) =
          let here : run_so a t ≡ first = cc in
          let there : run_so b u ≡ second = cc in
          inl (sym here ∙ ap (λ flow. run_so flow t) same ∙ ap (run_so b) alike.same ∙ there)
      of_ends (Part apart) =
          let here : run_so a t ≡ first = cc in
          let there : run_so b u ≡ second = cc in
          inr (subst (λ r. PartWays r.calls second.calls) here (subst (λ r. PartWays t.calls r.calls) there apart.ways))

pub runs_go_alike : RunsGoAlike
unfolding test_meaning
runs_go_alike services test one other fuel first second left rest one_fails other_fails e f =
    tests_end services one other one_fails other_fails (suc fuel) _ _ first second left rest e f
    (statements_meet services one other one_fails other_fails (suc fuel) (runs_meet services one other one_fails other_fails (suc fuel))
    test_frame beginning test.body (test_state fuel) (omega arith))

-- ---- the sources of plans

pub plans_only_fail : PlansOnlyFail
plans_only_fail kinds plan index callee args = by_answer (injected_at kinds plan index callee)
  where
    by_answer : (given : Option Reply) → (Some (fault_or_forward given) ≡ Some Forward) ⊎ ((answer : Reply) × (Some (fault_or_forward given) ≡ Some (Fault answer)))
    by_answer None = inl refl
    by_answer (Some answer) = inr (answer, refl)
