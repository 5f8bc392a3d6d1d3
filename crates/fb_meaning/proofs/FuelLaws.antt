-- The law of fuel: with more fuel the same happens, up to where less would be spent.
use Rattle.std.specs.Prelude.{◌≡◌, ℕ, zero, suc, ◌+◌, ◌-◌, ◌≤◌, ◌<◌, ◌⊎◌, nat_le, Bool, true, false, if◌then◌else◌, List, Option, Some, None, ⊤}
use Rattle.std.proofs.Common.{refl, sym, ap, ◌∙◌, subst, arith, inl, inr}
use Rattle.std.proofs.lemmas.Bool.{cases_lt}
use Rattle.std.proofs.lemmas.Bool.Decides.{nat_tests}
use Rattle.fb_base.specs.declared.method.MethodId.{MethodId}
use Rattle.fb_base.specs.declared.value.Value.{Value}
use Rattle.fb_base.specs.declared.reply.Reply.{Reply}
use Rattle.fb_index.specs.Entry.{Occurrence}
use Rattle.fb_syntax.specs.Trees.{Statement, Statements, MethodTree, ServicesTree, TestTree}
use Rattle.fb_check.specs.Programs.{method_at}
use Rattle.fb_tree.specs.Runs.{Tree, Invocation, Ran, How, Known as KnownHow}
use Rattle.fb_tree.specs.Calls.{calls_at}
use Rattle.fb_tree.specs.Records.{steps_of, steps_of_run}
use Rattle.fb_transport.specs.Sources.{Source}
use Rattle.fb_transport.specs.declared.decision.Decision.{Decision}
use Rattle.fb_transport.specs.declared.decision.Decision.TheVariants.{Forward, Fault, Known}
use Rattle.fb_meaning.specs.Evaluations.{Evaluation, Spent, Missing, Done, then_on, Flow, State, holding, begun, Going, with_unit, with_unit_of}
use Rattle.fb_meaning.specs.Positions.{Position, beginning}
use Rattle.fb_meaning.specs.Bodies.{Whose, Frame, PreparedCall, questions, statements_go, method_frame, method_state, invocation_of, body_goes, returned, decided, decided_by, index_of_call, reply_of, reply_of_flow, act}
use Rattle.fb_meaning.specs.Meaning.{meaning, method_meaning, test_meaning, test_frame, test_state, test_run_of, outcome_of_flow}
use Rattle.fb_meaning.specs.Fuel.{FollowsFuel}
use Rattle.fb_meaning.proofs.Steps.{Kept, act_keeps}
use Rattle.fb_meaning.proofs.Pairs.{Keeps, IsPairing, statements_alike, act_alike}
use Rattle.fb_meaning.proofs.Units.{TakesUnits, takes_units, Costs, call_takes, meaning_takes, method_costs, test_costs}
use Rattle.fb_meaning.proofs.Bounds.{meaning_rule}

abbrev richer : ℕ → State → State
richer more t = record t { fuel = t.fuel + more }

-- the second has so much more fuel, and the first less than the bound
record IsRicher (bound more : ℕ) (t u : State) : Type 0 where
  same : u ≡ richer more t
  small : t.fuel < bound

-- less than this is left
abbrev LeavesLess : {A : Type 0} → ℕ → Evaluation A State → Type 0
LeavesLess more Spent = ⊤
LeavesLess more Missing = ⊤
LeavesLess more (Done what u) = u.fuel < more

-- what comes with more fuel of what comes with less
abbrev GoesRicher : {A : Type 0} → ℕ → ℕ → Evaluation A State → Evaluation A State → Type 0
GoesRicher bound more Spent y = LeavesLess more y
GoesRicher bound more Missing y = y ≡ Missing
GoesRicher bound more (Done what t) y = (y ≡ Done what (richer more t)) × (t.fuel < bound)

kept_less : {A : Type 0} (more : ℕ) (t : State) (x : Evaluation A State) → Kept TakesUnits t x → t.fuel < more → LeavesLess more x
kept_less more t Spent h k = tt
kept_less more t Missing h k = tt
kept_less more t (Done what u) h k = omega (arith, h.left, k)

module _ (bound more : ℕ) where
  units_richer : (t u : State) (go along : State → Going) (fuel other : ℕ) → u ≡ richer more t → t.fuel ≡ fuel → u.fuel ≡ other → t.fuel < suc bound
      → Keeps TakesUnits along → ((a b : State) → IsRicher bound more a b → GoesRicher bound more (go a) (along b))
      → GoesRicher bound more (with_unit_of t go fuel) (with_unit_of u along other)
  units_richer t u go along zero zero same e f small keeps k = tt
  units_richer t u go along zero (suc left) same e f small keeps k =
      let fuel : u.fuel ≡ t.fuel + more = ap (λ s. s.fuel) same in
      kept_less more (begun left u) (along (begun left u)) (keeps _) (omega (arith, fuel, e, f))
  units_richer t u go along (suc left) zero same e f small keeps k =
      let fuel : u.fuel ≡ t.fuel + more = ap (λ s. s.fuel) same in
      absurd (omega (arith, fuel, e, f))
  units_richer t u go along (suc left) (suc rest) same e f small keeps k =
      let fuel : u.fuel ≡ t.fuel + more = ap (λ s. s.fuel) same in
      let rest_is : rest ≡ left + more = omega (arith, fuel, e, f) in
      k _ _ (record {
        same = ap (begun rest) same ∙ ap (λ n. begun n t) rest_is;
        small = omega (arith, e, small);
      })

  less_then : {A B : Type 0} (y : Evaluation A State) (along : A → State → Evaluation B State) → ((what : A) (t : State) → Kept TakesUnits t (along what t))
      → LeavesLess more y → LeavesLess more (then_on y along)
  less_then Spent along keeps h = tt
  less_then Missing along keeps h = tt
  less_then (Done what u) along keeps h = kept_less more u (along what u) (keeps what u) h

  then_richer : {A B : Type 0} (x y : Evaluation A State) (go along : A → State → Evaluation B State) → GoesRicher bound more x y
      → ((what : A) (t : State) → Kept TakesUnits t (along what t))
      → ((what : A) (a b : State) → IsRicher bound more a b → GoesRicher bound more (go what a) (along what b)) → GoesRicher bound more (then_on x go) (then_on y along)
  then_richer Spent y go along h keeps k = less_then y along keeps h
  then_richer Missing y go along h keeps k = ap (λ z. then_on z along) h
  then_richer (Done what t) y go along h keeps k =
      subst (λ z. GoesRicher bound more (go what t) (then_on z along)) (sym h.0) (k what t (richer more t) (record { same = refl; small = h.1 }))

  go_richer : (whose : Whose) → IsPairing TakesUnits whose (IsRicher bound more) (GoesRicher bound more)
  go_richer whose = record {
    variables = λ t u h. sym (ap (λ s. s.variables) h.same);
    asks = λ t u h. sym (ap (λ s. questions whose s.calls) h.same);
    counts = λ t u h site. sym (ap (λ s. calls_at site s.calls) h.same);
    assigned = λ t u variables h. record { same = ap (holding variables) h.same; small = h.small };
    done = λ flow t u h. (ap (Done flow) h.same, h.small);
    unit = λ t u go along h _ keeps k. units_richer t u go along t.fuel u.fuel h.same refl refl (omega (arith, h.small)) keeps k;
    on = λ x y after along h _ keeps k. then_richer x y after along h keeps k;
  }

-- ---- invocations

-- the same of what is done with some fuel left
abbrev LeavesFewer : {A : Type 0} → ℕ → Evaluation A ℕ → Type 0
LeavesFewer more Spent = ⊤
LeavesFewer more Missing = ⊤
LeavesFewer more (Done what left) = left < more

abbrev DoesRicher : {A : Type 0} → ℕ → Evaluation A ℕ → Evaluation A ℕ → Type 0
DoesRicher more Spent y = LeavesFewer more y
DoesRicher more Missing y = y ≡ Missing
DoesRicher more (Done what left) y = y ≡ Done what (left + more)

-- an end that tells what the body did, and the fuel that it left
record TellsFuel {A : Type 0} (end : Flow → State → Evaluation A ℕ) (what : Flow → State → A) : Type 0 where
  told : (flow : Flow) (t : State) → end flow t ≡ Done (what flow t) t.fuel
  free : (flow : Flow) (t : State) (more : ℕ) → what flow (richer more t) ≡ what flow t

module _ {A : Type 0} (end : Flow → State → Evaluation A ℕ) (what : Flow → State → A) (tells : TellsFuel end what) (bound more : ℕ) where
  less_end : (y : Going) → LeavesLess more y → LeavesFewer more (then_on y end)
  less_end Spent h = tt
  less_end Missing h = tt
  less_end (Done flow u) h = subst (LeavesFewer more) (sym (tells.told flow u)) h

  end_richer : (x y : Going) → GoesRicher bound more x y → DoesRicher more (then_on x end) (then_on y end)
  end_richer Spent y h = less_end y h
  end_richer Missing y h = ap (λ z. then_on z end) h
  end_richer (Done flow t) y h =
      subst (λ z. DoesRicher more z (then_on y end)) (sym (tells.told flow t))
      (ap (λ z. then_on z end) h.0 ∙ tells.told flow (richer more t) ∙ ap (λ w. Done w (t.fuel + more)) (tells.free flow t more))

method_tells : (m : MethodId) (args : List Value) → TellsFuel (invocation_of m args) (λ flow t. Invocation m args t.calls (reply_of_flow flow) t.steps)
method_tells m args = record { told = λ flow t. refl; free = λ flow t more. refl }

test_tells : TellsFuel test_run_of (λ flow t. record { calls = t.calls; outcome = outcome_of_flow flow; steps = t.steps })
test_tells = record { told = λ flow t. refl; free = λ flow t more. refl }

-- a state with more fuel goes on from another, where a call returned
returned_richer : (bound more : ℕ) (t : State) (request : PreparedCall) (how : How) (got : Reply) (left : ℕ) → left < bound
    → GoesRicher bound more (returned t request how got left) (returned (richer more t) request how got (left + more))
returned_richer bound more t request how got left h = (refl, h)

module _ (services : ServicesTree) (source : Source) (more : ℕ) where
  -- statements inside go so, up to some fuel
  abbrev RunsRicher : ℕ → Type 0
  RunsRicher bound = (frame : Frame) (at : Position) (s : Statement) (t u : State) → IsRicher bound more t u
      → GoesRicher bound more (meaning services source frame at s t) (meaning services source frame at s u)

  module _ (bound : ℕ) (runs : RunsRicher bound) where
    statements_richer : (frame : Frame) (at : Position) (ss : Statements) (t : State) → t.fuel < bound
        → GoesRicher bound more (statements_go (meaning services source) frame at ss t) (statements_go (meaning services source) frame at ss (richer more t))
    statements_richer frame at ss t h =
        statements_alike TakesUnits takes_units frame.whose (IsRicher bound more) (GoesRicher bound more) (go_richer bound more frame.whose)
        (meaning services source) (meaning services source) frame.index frame.index
        (meaning_takes services source frame) (meaning_takes services source frame) (runs frame)
        at ss t (richer more t) (record { same = refl; small = h })

    body_richer : (method : Option MethodTree) (m : MethodId) (args : List Value) (index : List Occurrence) (fuel : ℕ) → fuel < bound
        → DoesRicher more (body_goes (meaning services source) method m args index fuel) (body_goes (meaning services source) method m args index (fuel + more))
    body_richer None m args index fuel h = refl
    body_richer (Some method) m args index fuel h =
        end_richer (invocation_of m args) _ (method_tells m args) bound more _ _
        (statements_richer (method_frame index) beginning method.body (method_state method args fuel) h)

    less_ran : (u : State) (request : PreparedCall) (y : Evaluation Tree ℕ) → LeavesFewer more y
        → LeavesLess more (then_on y (λ tree left. returned u request (Ran tree) (reply_of tree) left))
    less_ran u request Spent h = tt
    less_ran u request Missing h = tt
    less_ran u request (Done tree left) h = h

    abbrev ran : State → PreparedCall → Tree → ℕ → Evaluation Reply State
    ran u request tree left = returned u request (Ran tree) (reply_of tree) left

    ran_richer : (t : State) (request : PreparedCall) (x y : Evaluation Tree ℕ) → Costs steps_of t.fuel x → t.fuel < bound → DoesRicher more x y
        → GoesRicher bound more (then_on x (λ tree left. returned t request (Ran tree) (reply_of tree) left))
        (then_on y (λ tree left. returned (richer more t) request (Ran tree) (reply_of tree) left))
    ran_richer t request Spent y c small h = less_ran (richer more t) request y h
    ran_richer t request Missing y c small h = ap (λ z. then_on z (ran (richer more t) request)) h
    ran_richer t request (Done tree left) y c small h = (ap (λ z. then_on z (ran (richer more t) request)) h, omega (arith, c, small))

    known_richer : (t : State) (request : PreparedCall) (got : Reply) (steps : ℕ) (injected : List MethodId) (fits also : Bool)
        → nat_le steps t.fuel ≡ fits → nat_le steps (t.fuel + more) ≡ also → t.fuel < bound
        → GoesRicher bound more (if fits then returned t request (KnownHow steps injected) got (t.fuel - steps) else Spent)
        (if also then returned (richer more t) request (KnownHow steps injected) got (t.fuel + more - steps) else Spent)
    known_richer t request got steps injected true true e f small =
        let fits : steps ≤ t.fuel = grind (arith, nat_tests) in
        let left : t.fuel + more - steps ≡ t.fuel - steps + more = omega (arith, fits) in
        (ap (λ n. returned (richer more t) request (KnownHow steps injected) got n) left, omega (arith, small))
    known_richer t request got steps injected true false e f small = absurd (grind (arith, nat_tests))
    known_richer t request got steps injected false true e f small =
        let spent : t.fuel < steps = grind (arith, nat_tests) in
        let fits : steps ≤ t.fuel + more = grind (arith, nat_tests) in
        omega (arith, spent, fits)
    known_richer t request got steps injected false false e f small = tt

    decision_richer : (index : List Occurrence) (decision : Option Decision) (request : PreparedCall) (t : State) → t.fuel < bound
        → GoesRicher bound more (decided_by services (meaning services source) index decision request t)
        (decided_by services (meaning services source) index decision request (richer more t))
    decision_richer index None request t h = refl
    decision_richer index (Some Forward) request t h =
        ran_richer t request _ _
        (method_costs services (meaning services source) (meaning_takes services source) request.callee request.args index t.fuel) h
        (body_richer (method_at services request.callee.0) request.callee request.args index t.fuel h)
    decision_richer index (Some (Fault got)) request t h = (refl, h)
    decision_richer index (Some (Known got steps injected)) request t h =
        known_richer t request got steps injected (nat_le steps t.fuel) (nat_le steps (t.fuel + more)) refl refl h

    act_richer : (frame : Frame) (at : Position) (s : Statement) (t u : State) → IsRicher bound more t u
        → GoesRicher bound more (act services source (meaning services source) frame at s t) (act services source (meaning services source) frame at s u)
    act_richer frame at s t u h =
        act_alike TakesUnits takes_units frame.whose (IsRicher bound more) (GoesRicher bound more) (go_richer bound more frame.whose)
        (meaning services source) (meaning services source) frame.index frame.index
        (meaning_takes services source frame) (meaning_takes services source frame) (runs frame) services source source
        (λ request a b go along k _ keeps more_of.
        subst (λ v. GoesRicher bound more (then_on (decided services source (meaning services source) frame request a) go)
        (then_on (decided services source (meaning services source) frame request v) along)) (sym k.same)
        (then_richer bound more _ _ go along (decision_richer (index_of_call frame request) _ request a k.small) keeps more_of))
        at s t u h

  wider : (bound : ℕ) (x y : Going) → GoesRicher bound more x y → GoesRicher (suc bound) more x y
  wider bound Spent y h = h
  wider bound Missing y h = h
  wider bound (Done flow t) y h = (h.0, omega (arith, h.1))

  act_keeps_units : (frame : Frame) (at : Position) (s : Statement) → Keeps TakesUnits (act services source (meaning services source) frame at s)
  act_keeps_units frame at s t =
      act_keeps TakesUnits takes_units (meaning services source) frame (meaning_takes services source frame) services source t t (takes_units.same t) at
      (λ service method args request is. call_takes services source (meaning services source) (meaning_takes services source) frame request t) s

  abbrev acts : Frame → Position → Statement → State → Going
  acts frame at s = act services source (meaning services source) frame at s

  runs_richer : (bound : ℕ) → RunsRicher bound
  runs_richer zero frame at s t u h = absurd (omega (arith, h.small))
  runs_richer (suc bound) frame at s t u h =
      subst (λ x. GoesRicher (suc bound) more x (meaning services source frame at s u)) (sym (meaning_rule services source frame at s t))
      (subst (GoesRicher (suc bound) more (with_unit t (acts frame at s))) (sym (meaning_rule services source frame at s u))
      (wider bound (with_unit t (acts frame at s)) (with_unit u (acts frame at s))
      (units_richer bound more t u (acts frame at s) (acts frame at s) t.fuel u.fuel h.same refl refl h.small (act_keeps_units frame at s)
      (act_richer bound (runs_richer bound) frame at s))))

  pub method_richer : (m : MethodId) (args : List Value) (index : List Occurrence) (fuel : ℕ)
      → DoesRicher more (method_meaning services source fuel m args index) (method_meaning services source (fuel + more) m args index)
  unfolding method_meaning
  method_richer m args index fuel = body_richer (suc fuel) (runs_richer (suc fuel)) (method_at services m.0) m args index fuel (omega arith)

  pub test_richer : (test : TestTree) (fuel : ℕ) → DoesRicher more (test_meaning services test source fuel) (test_meaning services test source (fuel + more))
  unfolding test_meaning
  test_richer test fuel =
      end_richer test_run_of _ test_tells (suc fuel) more _ _
      (statements_richer (suc fuel) (runs_richer (suc fuel)) test_frame beginning test.body (test_state fuel) (omega arith))

-- ---- the law

module _ {A : Type 0} (steps : A → ℕ) (evaluated : ℕ → Evaluation A ℕ)
    (costs : (fuel : ℕ) → Costs steps fuel (evaluated fuel))
    (rich : (fuel more : ℕ) → DoesRicher more (evaluated fuel) (evaluated (fuel + more))) where
  taken_by : (fuel left : ℕ) (what : A) → evaluated fuel ≡ Done what left → left + steps what ≡ fuel
  taken_by fuel left what e = subst (Costs steps fuel) e (costs fuel)

  with_more : (fuel left more : ℕ) (what : A) → evaluated fuel ≡ Done what left → evaluated (fuel + more) ≡ Done what (left + more)
  with_more fuel left more what e = subst (λ x. DoesRicher more x (evaluated (fuel + more))) e (rich fuel more)

  -- what less fuel brought where with some more it is done
  before_done : (x : Evaluation A ℕ) (other left more : ℕ) (what : A) → evaluated other ≡ x → evaluated (other + more) ≡ Done what left
      → DoesRicher more x (Done what left) → ((evaluated other ≡ Spent) × (left < more)) ⊎ ((rest : ℕ) × (evaluated other ≡ Done what rest) × (left ≡ rest + more))
  before_done Spent other left more what e f h = inl (e, h)
  before_done Missing other left more what e f h = absurd (cc)
  before_done (Done also rest) other left more what e f h =
      let same : also ≡ what = cc in
      let lefts : left ≡ rest + more = cc in
      inr (rest, e ∙ ap (λ w. Done w rest) same, lefts)

  with_less : (fuel left other more : ℕ) (what : A) → evaluated fuel ≡ Done what left → fuel ≡ other + more
      → ((evaluated other ≡ Spent) × (left < more)) ⊎ ((rest : ℕ) × (evaluated other ≡ Done what rest) × (left ≡ rest + more))
  with_less fuel left other more what e is =
      let there : evaluated (other + more) ≡ Done what left = ap evaluated (sym is) ∙ e in
      before_done (evaluated other) other left more what refl there (subst (DoesRicher more (evaluated other)) there (rich other more))

  enough_for : (fuel left other : ℕ) (what : A) → evaluated fuel ≡ Done what left → steps what ≤ other → (other < fuel) ⊎ (fuel ≤ other)
      → evaluated other ≡ Done what (other - steps what)
  enough_for fuel left other what e fits (inr more) =
      let taken = taken_by fuel left what e in
      let sum : fuel + (other - fuel) ≡ other = omega (arith, more) in
      let rest : left + (other - fuel) ≡ other - steps what = omega (arith, more, taken) in
      ap evaluated (sym sum) ∙ with_more fuel left (other - fuel) what e ∙ ap (Done what) rest
  enough_for fuel left other what e fits (inl less) =
      by_less (with_less fuel left other (fuel - other) what e (omega (arith, less)))
    where
      by_less : ((evaluated other ≡ Spent) × (left < fuel - other)) ⊎ ((rest : ℕ) × (evaluated other ≡ Done what rest) × (left ≡ rest + (fuel - other)))
          → evaluated other ≡ Done what (other - steps what)
      by_less (inl h) = let taken = taken_by fuel left what e in absurd (omega (arith, h.1, taken, fits, less))
      by_less (inr h) = let taken = taken_by other h.0 what h.1 in h.1 ∙ ap (Done what) (omega (arith, taken))

  spent_with : (fuel left other : ℕ) (what : A) → evaluated fuel ≡ Done what left → other < steps what → evaluated other ≡ Spent
  spent_with fuel left other what e less =
      let taken = taken_by fuel left what e in
      by_less (with_less fuel left other (fuel - other) what e (omega (arith, taken, less)))
    where
      by_less : ((evaluated other ≡ Spent) × (left < fuel - other)) ⊎ ((rest : ℕ) × (evaluated other ≡ Done what rest) × (left ≡ rest + (fuel - other))) → evaluated other ≡ Spent
      by_less (inl h) = h.0
      by_less (inr h) = let taken = taken_by other h.0 what h.1 in absurd (omega (arith, taken, less))

  lacks_with : (fuel other : ℕ) → evaluated fuel ≡ Missing → fuel ≤ other → evaluated other ≡ Missing
  lacks_with fuel other e more =
      let sum : fuel + (other - fuel) ≡ other = omega (arith, more) in
      ap evaluated (sym sum) ∙ subst (λ x. DoesRicher (other - fuel) x (evaluated (fuel + (other - fuel)))) e (rich fuel (other - fuel))

  before_missing : (x : Evaluation A ℕ) (other more : ℕ) → evaluated other ≡ x → DoesRicher more x Missing → (evaluated other ≡ Missing) ⊎ (evaluated other ≡ Spent)
  before_missing Spent other more e h = inr e
  before_missing Missing other more e h = inl e
  before_missing (Done what left) other more e h = absurd (cc)

  lacks_with_less : (fuel other : ℕ) → evaluated fuel ≡ Missing → other ≤ fuel → (evaluated other ≡ Missing) ⊎ (evaluated other ≡ Spent)
  lacks_with_less fuel other e less =
      let sum : other + (fuel - other) ≡ fuel = omega (arith, less) in
      before_missing (evaluated other) other (fuel - other) refl
      (subst (DoesRicher (fuel - other) (evaluated other)) (ap evaluated sum ∙ e) (rich other (fuel - other)))

  follows_fuel : FollowsFuel steps evaluated
  follows_fuel = record {
    taken = taken_by;
    enough = λ fuel left other what e fits. enough_for fuel left other what e fits (cases_lt other fuel);
    less = spent_with;
    lacks = lacks_with;
    lacks_below = lacks_with_less;
  }

module _ (services : ServicesTree) (source : Source) where
  pub method_follows_fuel : (m : MethodId) (args : List Value) (index : List Occurrence)
      → FollowsFuel steps_of (λ fuel. method_meaning services source fuel m args index)
  unfolding method_meaning
  method_follows_fuel m args index =
      follows_fuel steps_of (λ fuel. method_meaning services source fuel m args index)
      (λ fuel. method_costs services (meaning services source) (meaning_takes services source) m args index fuel)
      (λ fuel more. method_richer services source more m args index fuel)

  pub test_follows_fuel : (test : TestTree) → FollowsFuel steps_of_run (test_meaning services test source)
  test_follows_fuel test =
      follows_fuel steps_of_run (test_meaning services test source)
      (λ fuel. test_costs services source test fuel)
      (λ fuel more. test_richer services source more test fuel)
