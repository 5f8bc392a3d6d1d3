-- What units of fuel are taken for: an evaluation leaves no more than it was given, and what is missing then are the
-- steps of its bodies.
use Rattle.std.specs.Prelude.{◌≡◌, ℕ, suc, ◌+◌, ◌-◌, ◌≤◌, nat_le, Bool, true, false, if◌then◌else◌, List, Option, Some, None, ⊤}
use Rattle.std.proofs.Common.{refl, ap, ◌∙◌, arith}
use Rattle.std.proofs.lemmas.Bool.Decides.{nat_tests}
use Rattle.fb_base.specs.declared.method.MethodId.{MethodId}
use Rattle.fb_base.specs.declared.value.Value.{Value}
use Rattle.fb_base.specs.declared.reply.Reply.{Reply}
use Rattle.fb_index.specs.Entry.{Occurrence}
use Rattle.fb_syntax.specs.Trees.{Expressions, Statement, MethodTree, ServicesTree, TestTree}
use Rattle.fb_check.specs.Programs.{method_at}
use Rattle.fb_tree.specs.Runs.{Tree, NoCalls, Ran, Known as KnownHow, How}
use Rattle.fb_tree.specs.Records.{steps_of, steps_in, steps_below, steps_of_run}
use Rattle.fb_transport.specs.Sources.{Source}
use Rattle.fb_transport.specs.declared.decision.Decision.{Decision}
use Rattle.fb_transport.specs.declared.decision.Decision.TheVariants.{Forward, Fault, Known}
use Rattle.fb_meaning.specs.Evaluations.{Evaluation, Spent, Missing, Done, then_on, State, begun, Going}
use Rattle.fb_meaning.specs.Positions.{Position, beginning}
use Rattle.fb_meaning.specs.Meaning.{within, meaning, test_meaning, test_frame, test_state, test_run_of}
use Rattle.fb_meaning.specs.Bodies.{Frame, Meaning, PreparedCall, method_frame, method_state, invocation_of, body_goes, method_goes, prepared, returned, decided, decided_by, index_of_call, reply_of}
use Rattle.fb_meaning.proofs.Steps.{Kept, IsStepRelation, kept_on, statements_keep, within_keeps, meaning_keeps}

-- the units that are left, and those that were taken for the steps so far
abbrev pub units_of : State → ℕ
units_of t = t.fuel + t.steps + steps_in t.calls

pub record TakesUnits (before after : State) : Type 0 where
  pub left : after.fuel ≤ before.fuel
  pub grown : before.steps ≤ after.steps
  pub taken : units_of after ≡ units_of before

pub takes_units : IsStepRelation TakesUnits
takes_units = record {
  same = λ t. record { left = omega arith; grown = omega arith; taken = refl };
  joined = λ a b c h k. record { left = omega (arith, h.left, k.left); grown = omega (arith, h.grown, k.grown); taken = k.taken ∙ h.taken };
  assigned = λ t variables. record { left = omega arith; grown = omega arith; taken = refl };
  unit = λ t left is. record { left = omega (arith, is); grown = omega arith; taken = omega (arith, is) };
}

-- the same of an invocation or a test that is done
abbrev pub Costs : {A : Type 0} → (A → ℕ) → ℕ → Evaluation A ℕ → Type 0
Costs steps fuel Spent = ⊤
Costs steps fuel Missing = ⊤
Costs steps fuel (Done what left) = left + steps what ≡ fuel

-- a call that returned, with what its callee took
returned_takes : (t : State) (request : PreparedCall) (how : How) (got : Reply) (left : ℕ) → left + steps_below how ≡ t.fuel
    → Kept TakesUnits t (returned t request how got left)
unfolding steps_in
returned_takes t request how got left e = record { left = omega (arith, e); grown = omega arith; taken = omega (arith, e) }

module _ (services : ServicesTree) (run : Meaning)
    (keeps : (frame : Frame) (at : Position) (s : Statement) (t : State) → Kept TakesUnits t (run frame at s t)) where
  of_end : (m : MethodId) (args : List Value) (t : State) (x : Going) → Kept TakesUnits t x → t.steps ≡ 0 → t.calls ≡ NoCalls
      → Costs steps_of t.fuel (then_on x (invocation_of m args))
  unfolding steps_of steps_in
  of_end m args t Spent h s c = tt
  of_end m args t Missing h s c = tt
  of_end m args t (Done flow u) h s c =
      let none : steps_in t.calls ≡ 0 = ap steps_in c in
      omega (arith, h.taken, s, none)

  of_body : (method : Option MethodTree) (m : MethodId) (args : List Value) (index : List Occurrence) (fuel : ℕ) → Costs steps_of fuel (body_goes run method m args index fuel)
  unfolding steps_of steps_in
  of_body None m args index fuel = omega arith
  of_body (Some method) m args index fuel =
      of_end m args (method_state method args fuel) _
      (statements_keep TakesUnits takes_units run (method_frame index) (keeps (method_frame index)) beginning method.body (method_state method args fuel)) refl refl

  pub method_costs : (m : MethodId) (args : List Value) (index : List Occurrence) (fuel : ℕ) → Costs steps_of fuel (method_goes services run m args index fuel)
  method_costs m args index fuel = of_body (method_at services m.0) m args index fuel

  ran_takes : (t : State) (request : PreparedCall) (x : Evaluation Tree ℕ) → Costs steps_of t.fuel x
      → Kept TakesUnits t (then_on x (λ tree left. returned t request (Ran tree) (reply_of tree) left))
  unfolding steps_below
  ran_takes t request Spent h = tt
  ran_takes t request Missing h = tt
  ran_takes t request (Done tree left) h = returned_takes t request (Ran tree) (reply_of tree) left h

  known_takes : (t : State) (request : PreparedCall) (got : Reply) (steps : ℕ) (injected : List MethodId) (fits : Bool) → nat_le steps t.fuel ≡ fits
      → Kept TakesUnits t (if fits then returned t request (KnownHow steps injected) got (t.fuel - steps) else Spent)
  unfolding steps_below
  known_takes t request got steps injected false e = tt
  known_takes t request got steps injected true e =
      returned_takes t request (KnownHow steps injected) got (t.fuel - steps) (grind (arith, nat_tests))

  decision_takes : (index : List Occurrence) (decision : Option Decision) (request : PreparedCall) (t : State) → Kept TakesUnits t (decided_by services run index decision request t)
  unfolding steps_below
  decision_takes index None request t = tt
  decision_takes index (Some Forward) request t = ran_takes t request _ (method_costs request.callee request.args index t.fuel)
  decision_takes index (Some (Fault got)) request t = returned_takes t request _ got t.fuel (omega arith)
  decision_takes index (Some (Known got steps injected)) request t = known_takes t request got steps injected (nat_le steps t.fuel) refl

pub call_takes : (services : ServicesTree) (source : Source) (run : Meaning)
    → ((frame : Frame) (at : Position) (s : Statement) (t : State) → Kept TakesUnits t (run frame at s t))
    → (frame : Frame) (request : PreparedCall) (t : State) → Kept TakesUnits t (decided services source run frame request t)
call_takes services source run keeps frame request t =
    decision_takes services run keeps (index_of_call frame request) _ request t

prepared_calls_take : (services : ServicesTree) (source : Source) (run : Meaning)
    → ((frame : Frame) (at : Position) (s : Statement) (t : State) → Kept TakesUnits t (run frame at s t))
    → (frame : Frame) (at : Position) (service method : List ℕ) (args : Expressions) (request : PreparedCall) (t : State) (left : ℕ) → t.fuel ≡ suc left
    → prepared services frame.whose at service method args (begun left t) ≡ Some request
    → Kept TakesUnits t (decided services source run frame request (begun left t))
prepared_calls_take services source run keeps frame at service method args request t left e is =
    kept_on TakesUnits takes_units t (begun left t) _ (takes_units.unit t left e) (call_takes services source run keeps frame request (begun left t))

pub within_takes : (services : ServicesTree) (source : Source) (bound : ℕ) (frame : Frame) (at : Position) (s : Statement) (t : State)
    → Kept TakesUnits t (within services source bound frame at s t)
within_takes services source = within_keeps (λ _. TakesUnits) (λ _. takes_units) services source (prepared_calls_take services source)

pub meaning_takes : (services : ServicesTree) (source : Source) (frame : Frame) (at : Position) (s : Statement) (t : State)
    → Kept TakesUnits t (meaning services source frame at s t)
meaning_takes services source = meaning_keeps (λ _. TakesUnits) (λ _. takes_units) services source (prepared_calls_take services source)

test_ends : (t : State) (x : Going) → Kept TakesUnits t x → t.steps ≡ 0 → t.calls ≡ NoCalls → Costs steps_of_run t.fuel (then_on x test_run_of)
unfolding steps_in
test_ends t Spent h s c = tt
test_ends t Missing h s c = tt
test_ends t (Done flow u) h s c =
    let none : steps_in t.calls ≡ 0 = ap steps_in c in
    omega (arith, h.taken, s, none)

pub test_costs : (services : ServicesTree) (source : Source) (test : TestTree) (fuel : ℕ) → Costs steps_of_run fuel (test_meaning services test source fuel)
unfolding test_meaning
test_costs services source test fuel =
    test_ends (test_state fuel) _
    (statements_keep TakesUnits takes_units (meaning services source) test_frame (meaning_takes services source test_frame) beginning test.body (test_state fuel)) refl refl
