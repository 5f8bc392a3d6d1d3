-- A bound that is no less than the fuel makes no difference, so a statement means a unit and what it does then.
use Rattle.std.specs.Prelude.{◌≡◌, ℕ, zero, suc, ◌≤◌, List, Option, Some, None, ⊤}
use Rattle.std.proofs.Common.{refl, sym, ap, ◌∙◌, subst, arith}
use Rattle.fb_base.specs.declared.method.MethodId.{MethodId}
use Rattle.fb_base.specs.declared.value.Value.{Value}
use Rattle.fb_base.specs.declared.reply.Reply.{Reply}
use Rattle.fb_index.specs.Entry.{Occurrence}
use Rattle.fb_syntax.specs.Trees.{Statement, MethodTree, ServicesTree}
use Rattle.fb_check.specs.Programs.{method_at}
use Rattle.fb_transport.specs.Sources.{Source}
use Rattle.fb_transport.specs.declared.decision.Decision.{Decision}
use Rattle.fb_transport.specs.declared.decision.Decision.TheVariants.{Forward, Fault, Known}
use Rattle.fb_meaning.specs.Evaluations.{Evaluation, Spent, Missing, Done, then_on, Flow, State, holding, begun, Going, with_unit, with_unit_of}
use Rattle.fb_meaning.specs.Positions.{Position, beginning}
use Rattle.fb_tree.specs.Runs.{Ran}
use Rattle.fb_tree.specs.Calls.{calls_at}
use Rattle.fb_meaning.specs.Bodies.{Whose, OfMethod, Frame, Meaning, PreparedCall, questions, method_frame, method_state, invocation_of, body_goes, returned, decided, decided_by, index_of_call, reply_of, act}
use Rattle.fb_meaning.specs.Meaning.{within, meaning}
use Rattle.fb_meaning.proofs.Steps.{Kept}
use Rattle.fb_meaning.proofs.Pairs.{IsPairing, statements_alike, act_alike}
use Rattle.fb_meaning.proofs.Units.{TakesUnits, takes_units, call_takes, within_takes, meaning_takes}

-- one state, with no more fuel than this
pub record AreOne (bound : ℕ) (t u : State) : Type 0 where
  pub same : t ≡ u
  pub small : t.fuel ≤ bound

abbrev pub LeavesAtMost : ℕ → Going → Type 0
LeavesAtMost bound Spent = ⊤
LeavesAtMost bound Missing = ⊤
LeavesAtMost bound (Done flow t) = t.fuel ≤ bound

pub record GoAsOne (bound : ℕ) (x y : Going) : Type 0 where
  pub same : x ≡ y
  pub small : LeavesAtMost bound x

module _ (bound : ℕ) where
  unit_as_one : (t : State) (go along : State → Going) (fuel : ℕ) → t.fuel ≡ fuel → t.fuel ≤ bound
      → ((a b : State) → AreOne bound a b → GoAsOne bound (go a) (along b)) → GoAsOne bound (with_unit_of t go fuel) (with_unit_of t along fuel)
  unit_as_one t go along zero e h k = record { same = refl; small = tt }
  unit_as_one t go along (suc left) e h k = k _ _ (record { same = refl; small = omega (arith, e, h) })

  on_as_one : (x : Going) (after along : Flow → State → Going) → LeavesAtMost bound x
      → ((flow : Flow) (a b : State) → AreOne bound a b → GoAsOne bound (after flow a) (along flow b)) → GoAsOne bound (then_on x after) (then_on x along)
  on_as_one Spent after along h k = record { same = refl; small = tt }
  on_as_one Missing after along h k = record { same = refl; small = tt }
  on_as_one (Done flow t) after along h k = k flow t t (record { same = refl; small = h })

  pub as_one : (whose : Whose) → IsPairing TakesUnits whose (AreOne bound) (GoAsOne bound)
  as_one whose = record {
    variables = λ t u h. ap (λ s. s.variables) h.same;
    asks = λ t u h. ap (λ s. questions whose s.calls) h.same;
    counts = λ t u h site. ap (λ s. calls_at site s.calls) h.same;
    assigned = λ t u variables h. record { same = ap (holding variables) h.same; small = h.small };
    done = λ flow t u h. record { same = ap (Done flow) h.same; small = h.small };
    unit = λ t u go along h _ _ k. subst (λ v. GoAsOne bound (with_unit t go) (with_unit v along)) h.same (unit_as_one t go along t.fuel refl h.small k);
    on = λ x y after along h _ _ k. subst (λ z. GoAsOne bound (then_on x after) (then_on z along)) h.same (on_as_one x after along h.small k);
  }

-- two meanings that are one up to a bound
abbrev pub AreOneUpTo : ℕ → Meaning → Meaning → Type 0
AreOneUpTo bound run along = (frame : Frame) (at : Position) (s : Statement) (t : State) → t.fuel ≤ bound → run frame at s t ≡ along frame at s t

kept_small : (bound : ℕ) (t : State) (x : Going) → Kept TakesUnits t x → t.fuel ≤ bound → LeavesAtMost bound x
kept_small bound t Spent h k = tt
kept_small bound t Missing h k = tt
kept_small bound t (Done flow u) h k = omega (arith, h.left, k)

then_as_one : (bound : ℕ) (t : State) (x : Evaluation Reply State) (go along : Reply → State → Going) → Kept TakesUnits t x → t.fuel ≤ bound
    → ((got : Reply) (a b : State) → AreOne bound a b → GoAsOne bound (go got a) (along got b)) → GoAsOne bound (then_on x go) (then_on x along)
then_as_one bound t Spent go along h small k = record { same = refl; small = tt }
then_as_one bound t Missing go along h small k = record { same = refl; small = tt }
then_as_one bound t (Done got u) go along h small k = k got u u (record { same = refl; small = omega (arith, h.left, small) })

module _ (services : ServicesTree) (source : Source) (bound : ℕ) (run along : Meaning)
    (run_keeps : (frame : Frame) (at : Position) (s : Statement) (t : State) → Kept TakesUnits t (run frame at s t))
    (along_keeps : (frame : Frame) (at : Position) (s : Statement) (t : State) → Kept TakesUnits t (along frame at s t))
    (one : AreOneUpTo bound run along) where
  run_as_one : (frame : Frame) (at : Position) (s : Statement) (t u : State) → AreOne bound t u → GoAsOne bound (run frame at s t) (along frame at s u)
  run_as_one frame at s t u h = record {
    same = one frame at s t h.small ∙ ap (along frame at s) h.same;
    small = kept_small bound t (run frame at s t) (run_keeps frame at s t) h.small;
  }

  body_as_one : (method : Option MethodTree) (m : MethodId) (args : List Value) (index : List Occurrence) (fuel : ℕ) → fuel ≤ bound
      → body_goes run method m args index fuel ≡ body_goes along method m args index fuel
  body_as_one None m args index fuel h = refl
  body_as_one (Some method) m args index fuel h =
      ap (λ x. then_on x (invocation_of m args))
      (statements_alike TakesUnits takes_units OfMethod (AreOne bound) (GoAsOne bound) (as_one bound OfMethod) run along index index
      (run_keeps (method_frame index)) (along_keeps (method_frame index)) (run_as_one (method_frame index))
      beginning method.body (method_state method args fuel) (method_state method args fuel) (record { same = refl; small = h })).same

  decision_as_one : (index : List Occurrence) (decision : Option Decision) (request : PreparedCall) (t : State) → t.fuel ≤ bound
      → decided_by services run index decision request t ≡ decided_by services along index decision request t
  decision_as_one index None request t h = refl
  decision_as_one index (Some Forward) request t h =
      ap (λ x. then_on x (λ tree left. returned t request (Ran tree) (reply_of tree) left))
      (body_as_one (method_at services request.callee.0) request.callee request.args index t.fuel h)
  decision_as_one index (Some (Fault got)) request t h = refl
  decision_as_one index (Some (Known got steps injected)) request t h = refl

  call_as_one : (frame : Frame) (request : PreparedCall) (t u : State) (go along_go : Reply → State → Going) → AreOne bound t u
      → ((got : Reply) (a b : State) → AreOne bound a b → GoAsOne bound (go got a) (along_go got b))
      → GoAsOne bound (then_on (decided services source run frame request t) go) (then_on (decided services source along frame request u) along_go)
  call_as_one frame request t u go along_go h k =
      subst (λ v. GoAsOne bound (then_on (decided services source run frame request t) go) (then_on (decided services source along frame request v) along_go)) h.same
      (subst (λ y. GoAsOne bound (then_on (decided services source run frame request t) go) (then_on y along_go))
      (decision_as_one (index_of_call frame request) _ request t h.small)
      (then_as_one bound t (decided services source run frame request t) go along_go (call_takes services source run run_keeps frame request t) h.small k))

  pub act_as_one : (frame : Frame) (at : Position) (s : Statement) (t : State) → t.fuel ≤ bound
      → act services source run frame at s t ≡ act services source along frame at s t
  act_as_one frame at s t h =
      (act_alike TakesUnits takes_units frame.whose (AreOne bound) (GoAsOne bound) (as_one bound frame.whose) run along frame.index frame.index
      (run_keeps frame) (along_keeps frame) (run_as_one frame) services source source
      (λ request a b go along_go k _ _ more. call_as_one frame request a b go along_go k more)
      at s t t (record { same = refl; small = h })).same

-- ---- bounds

unit_same : (t : State) (go along : State → Going) (fuel : ℕ) → t.fuel ≡ fuel
    → ((left : ℕ) → fuel ≡ suc left → go (begun left t) ≡ along (begun left t))
    → with_unit_of t go fuel ≡ with_unit_of t along fuel
unit_same t go along zero e k = refl
unit_same t go along (suc left) e k = k left refl

module _ (services : ServicesTree) (source : Source) where
  spent_without : (bound : ℕ) (frame : Frame) (at : Position) (s : Statement) (t : State) → t.fuel ≡ 0 → within services source bound frame at s t ≡ Spent
  unfolding within
  spent_without zero frame at s t e = refl
  spent_without (suc bound) frame at s t e = ap (with_unit_of t (act services source (within services source bound) frame at s)) e

  pub bounds_as_one : (bound larger : ℕ) → bound ≤ larger → AreOneUpTo bound (within services source bound) (within services source larger)
  unfolding within
  bounds_as_one zero larger h frame at s t small = sym (spent_without larger frame at s t (omega (arith, small)))
  bounds_as_one (suc bound) zero h frame at s t small = absurd (omega (arith, h))
  bounds_as_one (suc bound) (suc larger) h frame at s t small =
      unit_same t (act services source (within services source bound) frame at s) (act services source (within services source larger) frame at s) t.fuel refl
      (λ left e. act_as_one services source bound (within services source bound) (within services source larger)
      (within_takes services source bound)
      (within_takes services source larger)
      (bounds_as_one bound larger (omega (arith, h))) frame at s (begun left t) (omega (arith, e, small)))

  within_as_meaning : (bound : ℕ) → AreOneUpTo bound (within services source bound) (meaning services source)
  unfolding meaning
  within_as_meaning bound frame at s t small = sym (bounds_as_one t.fuel bound small frame at s t (omega arith))

  rule_at : (fuel : ℕ) (frame : Frame) (at : Position) (s : Statement) (t : State) → t.fuel ≡ fuel
      → within services source fuel frame at s t ≡ with_unit_of t (act services source (meaning services source) frame at s) fuel
  unfolding within
  rule_at zero frame at s t e = refl
  rule_at (suc left) frame at s t e =
      ap (with_unit_of t (act services source (within services source left) frame at s)) e
      ∙ act_as_one services source left (within services source left) (meaning services source)
      (within_takes services source left)
      (meaning_takes services source)
      (within_as_meaning left) frame at s (begun left t) (omega arith)

  -- a statement takes a unit, and then does what it does by the meaning of the statements inside it
  pub meaning_rule : (frame : Frame) (at : Position) (s : Statement) (t : State)
      → meaning services source frame at s t ≡ with_unit t (act services source (meaning services source) frame at s)
  unfolding meaning
  meaning_rule frame at s t = rule_at t.fuel frame at s t refl
