-- The calls of each evaluation are counted by their sites, decided by the source, and no more than the steps.
use Rattle.std.specs.Prelude.{◌≡◌, ℕ, ◌+◌, ◌≤◌, List, [], Option, Some, None}
use Rattle.std.proofs.Common.{refl, sym, ap, ◌∙◌, subst, arith}
use Rattle.fb_base.specs.declared.method.MethodId.{MethodId}
use Rattle.fb_base.specs.declared.value.Value.{Value}
use Rattle.fb_index.specs.Entry.{Occurrence}
use Rattle.fb_syntax.specs.Trees.{Expressions, ServicesTree, TestTree}
use Rattle.fb_check.specs.Declarations.{declarations_of, number_in}
use Rattle.fb_tree.specs.Runs.{Tree, Invocation, CallList, Ran, TestRun}
use Rattle.fb_tree.specs.Calls.{calls_at}
use Rattle.fb_tree.specs.Records.{steps_of, steps_in, steps_below}
use Rattle.fb_transport.specs.Sources.{Source}
use Rattle.fb_transport.specs.declared.decision.Decision.TheVariants.{Forward}
use Rattle.fb_meaning.specs.Evaluations.{Done, State, begun}
use Rattle.fb_meaning.specs.Meaning.{method_meaning, test_meaning}
use Rattle.fb_meaning.specs.Expressions.{◌>>=◌, values_of}
use Rattle.fb_meaning.specs.Positions.{Position}
use Rattle.fb_meaning.specs.Bodies.{Whose, Frame, PreparedCall, environment, entry_at, prepared, index_of_call, asked_and_got, reply_of}
use Rattle.fb_meaning.specs.CallLaws.{AreCounted, AreCountedBelow, AreDecided, IsDecidedSo, calls_count, calls_count_below}
use Rattle.fb_meaning.proofs.Invariants.{IsInvariant, method_has, test_has}

-- ---- what is prepared

pub some_of : {A B : Type 0} (o : Option A) (more : A → Option B) (y : B) → (o >>= more) ≡ Some y → (x : A) × (o ≡ Some x) × (more x ≡ Some y)
some_of None more y e = absurd (cc)
some_of (Some x) more y e = (x, refl, e)

pub prepared_entry : (services : ServicesTree) (whose : Whose) (at : Position) (service method : List ℕ) (args : Expressions) (t : State) (request : PreparedCall)
    → prepared services whose at service method args t ≡ Some request → request.entry ≡ entry_at (at.sites + 1) t.calls
prepared_entry services whose at service method args t request e =
    let callee = some_of (number_in (declarations_of services) service method) _ request e in
    let values = some_of (values_of services (environment whose t) args) _ request callee.2 in
    cc

-- the numbers of an entry that is prepared
counted_entry : (request : PreparedCall) (site : ℕ) (calls : CallList) → request.entry ≡ entry_at site calls
    → request.entry.count ≡ calls_at request.entry.site calls + 1
counted_entry request site calls e =
    let count : request.entry.count ≡ calls_at site calls + 1 = ap (λ entry. entry.count) e in
    let where_from : request.entry.site ≡ site = ap (λ entry. entry.site) e in
    count ∙ ap (λ s. calls_at s calls + 1) (sym where_from)

-- ---- counted

abbrev HasCounted : MethodId → List Value → List Occurrence → Tree → Type 0
HasCounted m args index (Invocation method given calls reply steps) = AreCounted calls

counted_below : (m : MethodId) (args : List Value) (index : List Occurrence) (tree : Tree) → HasCounted m args index tree → AreCountedBelow (Ran tree)
unfolding AreCounted
counted_below m args index (Invocation method given calls reply steps) h = h

counted : (services : ServicesTree) (source : Source) → IsInvariant services source (λ frame t. AreCounted t.calls) HasCounted
unfolding AreCounted
counted services source = record {
  assigned = λ frame t variables h. h;
  unit = λ frame t left e h. h;
  starts = λ method args index fuel. tt;
  ends = λ m args index flow t h. h;
  without_body = λ m args index. tt;
  faulted = λ frame at service method args request t left got is e h.
      (h, counted_entry request (at.sites + 1) t.calls (prepared_entry services frame.whose at service method args (begun left t) request is), tt);
  ran = λ frame at service method args request t left tree rest is e has h. (
    h,
    counted_entry request (at.sites + 1) t.calls (prepared_entry services frame.whose at service method args (begun left t) request is),
    counted_below request.callee request.args (index_of_call frame request) tree has,
  );
  known = λ frame at service method args request t left got steps injected is e fits h.
      (h, counted_entry request (at.sites + 1) t.calls (prepared_entry services frame.whose at service method args (begun left t) request is), tt);
}

-- ---- decided

abbrev HasDecided : Source → MethodId → List Value → List Occurrence → Tree → Type 0
HasDecided source m args index (Invocation method given calls reply steps) = (method ≡ m) × (given ≡ args) × AreDecided source index calls

decided_below : (source : Source) (frame : Frame) (request : PreparedCall) (tree : Tree)
    → source (index_of_call frame request) request.callee.0 request.args ≡ Some Forward
    → HasDecided source request.callee request.args (index_of_call frame request) tree
    → IsDecidedSo source (index_of_call frame request) (asked_and_got request (reply_of tree)) (Ran tree)
unfolding AreDecided
decided_below source frame request (Invocation method given calls reply steps) e h = (e, h.0, h.1, refl, h.2)

decided_calls : (services : ServicesTree) (source : Source) → IsInvariant services source (λ frame t. AreDecided source frame.index t.calls) (HasDecided source)
unfolding AreDecided
decided_calls services source = record {
  assigned = λ frame t variables h. h;
  unit = λ frame t left e h. h;
  starts = λ method args index fuel. tt;
  ends = λ m args index flow t h. (refl, refl, h);
  without_body = λ m args index. (refl, refl, tt);
  faulted = λ frame at service method args request t left got is e h. (h, e);
  ran = λ frame at service method args request t left tree rest is e has h. (h, decided_below source frame request tree e has);
  known = λ frame at service method args request t left got steps injected is e fits h. (h, e);
}

-- ---- few

-- no more calls than steps, those below included
abbrev AreFew : State → Type 0
AreFew t = calls_count t.calls ≤ t.steps + steps_in t.calls

abbrev HasFew : MethodId → List Value → List Occurrence → Tree → Type 0
HasFew m args index (Invocation method given calls reply steps) = calls_count calls ≤ steps + steps_in calls

few_below : (m : MethodId) (args : List Value) (index : List Occurrence) (tree : Tree) → HasFew m args index tree → calls_count_below (Ran tree) ≤ steps_below (Ran tree)
unfolding calls_count steps_of
few_below m args index (Invocation method given calls reply steps) h = h

few_calls : (services : ServicesTree) (source : Source) → IsInvariant services source (λ frame t. AreFew t) HasFew
unfolding calls_count steps_of
few_calls services source = record {
  assigned = λ frame t variables h. h;
  unit = λ frame t left e h. omega (arith, h);
  starts = λ method args index fuel. omega arith;
  ends = λ m args index flow t h. h;
  without_body = λ m args index. omega arith;
  faulted = λ frame at service method args request t left got is e h. omega (arith, h);
  ran = λ frame at service method args request t left tree rest is e has h.
      omega (arith, h, few_below request.callee request.args (index_of_call frame request) tree has);
  known = λ frame at service method args request t left got steps injected is e fits h. omega (arith, h);
}

-- ---- of runs

module _ (services : ServicesTree) (source : Source) where
  pub method_counted : (fuel : ℕ) (m : MethodId) (args : List Value) (index : List Occurrence) (tree : Tree) (left : ℕ)
      → method_meaning services source fuel m args index ≡ Done tree left → AreCountedBelow (Ran tree)
  method_counted fuel m args index tree left e =
      counted_below m args index tree (method_has services source (λ frame t. AreCounted t.calls) HasCounted (counted services source) fuel m args index tree left e)

  pub test_counted : (test : TestTree) (fuel : ℕ) (run : TestRun) (left : ℕ) → test_meaning services test source fuel ≡ Done run left → AreCounted run.calls
  unfolding AreCounted
  test_counted test fuel run left e =
      let found = test_has services source (λ frame t. AreCounted t.calls) HasCounted (counted services source) test fuel run left tt e in
      subst AreCounted (sym found.2) found.1

  pub method_decided : (fuel : ℕ) (m : MethodId) (args : List Value) (index : List Occurrence) (tree : Tree) (left : ℕ)
      → method_meaning services source fuel m args index ≡ Done tree left → HasDecided source m args index tree
  method_decided = method_has services source (λ frame t. AreDecided source frame.index t.calls) (HasDecided source) (decided_calls services source)

  pub test_decided : (test : TestTree) (fuel : ℕ) (run : TestRun) (left : ℕ) → test_meaning services test source fuel ≡ Done run left → AreDecided source [] run.calls
  unfolding AreDecided
  test_decided test fuel run left e =
      let found = test_has services source (λ frame t. AreDecided source frame.index t.calls) (HasDecided source) (decided_calls services source) test fuel run left tt e in
      subst (AreDecided source []) (sym found.2) found.1

  pub test_few : (test : TestTree) (fuel : ℕ) (run : TestRun) (left : ℕ) → test_meaning services test source fuel ≡ Done run left
      → calls_count run.calls ≤ run.steps + steps_in run.calls
  unfolding calls_count steps_in
  test_few test fuel run left e =
      let found = test_has services source (λ frame t. AreFew t) HasFew (few_calls services source) test fuel run left (omega arith) e in
      let calls : calls_count run.calls ≡ calls_count found.0.calls = ap calls_count found.2 in
      let below : steps_in run.calls ≡ steps_in found.0.calls = ap steps_in found.2 in
      omega (arith, found.1, found.3, calls, below)
