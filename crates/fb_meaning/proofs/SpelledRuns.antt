-- What true records spell is the run of the plan.
use Rattle.std.specs.Prelude.{◌≡◌, ℕ, zero, suc, ◌+◌, ◌-◌, ◌≤◌, ◌==◌, true, if◌then◌else◌, List, [], ◌∷◌, ◌++◌, length, slice_get, Some, None, ⊤}
use Rattle.std.specs.Option.{option_map}
use Rattle.std.proofs.Common.{refl, sym, ap, ◌∙◌, subst, length-append, arith}
use Rattle.std.proofs.lemmas.Option.{slice_get-map}
use Rattle.fb_base.specs.declared.kind.Kind.{Kind}
use Rattle.fb_base.specs.declared.reply.Reply.{Reply}
use Rattle.fb_base.specs.declared.reply.Reply.TheVariants as reply
use Rattle.fb_index.specs.Entry.{Occurrence}
use Rattle.fb_syntax.specs.Trees.{MethodTree, ServicesTree}
use Rattle.fb_check.specs.Programs.{methods_of, method_at, kinds_given}
use Rattle.fb_tree.specs.Runs.{Tree, Invocation, CallList, NoCalls, AndCall, How, Faulted, Ran, Known as KnownHow}
use Rattle.fb_tree.specs.Calls.{calls_at, fault_of, calls_within, calls_below, call_at, injections_of}
use Rattle.fb_tree.specs.Records.{asked_of, record_of, records_of, records_in, records_below, steps_of_run}
use Rattle.fb_tree.specs.declared.asked.Asked.{Asked}
use Rattle.fb_tree.specs.declared.recorded.Record.{Record}
use Rattle.fb_transport.specs.Sources.{fits_kind, plan_source}
use Rattle.fb_meaning.specs.Evaluations.{Evaluation, Done}
use Rattle.fb_meaning.specs.CallLaws.{AreCounted, AreCountedBelow, AreDecided}
use Rattle.fb_meaning.specs.DecisionLaws.{IsTrueOnce}
use Rattle.fb_meaning.specs.Each.{HoldsOfEach}
use Rattle.fb_meaning.specs.Records.{IsOkOfKind, IsCallOf, IsTrueRecord, record_source, parts_source}
use Rattle.fb_meaning.specs.Spelling.{AreAt, NoneFails, SpelledIsRun, OneIsSpelled}
use Rattle.fb_meaning.proofs.CallRecords.{method_counted, test_counted}
use Rattle.fb_meaning.proofs.DecidedRuns.{none_asked}
use Rattle.fb_meaning.proofs.DecidedTests.{last_same}
use Rattle.fb_meaning.proofs.DecisionLaws.{joined_is_run}
use Rattle.fb_meaning.proofs.EachOf.{each_front, each_behind}
use Rattle.fb_meaning.proofs.PlacedCalls.{each_joined, each_so, apart_within}
use Rattle.fb_meaning.proofs.PlanAnswers.{MayFail, plan_decides}

-- ---- items by their places

one_of_each : {A : Type 0} (P : A → Type 0) (xs : List A) (k : ℕ) (x : A) → HoldsOfEach P xs → slice_get xs k ≡ Some x → P x
one_of_each P [] k x h e = absurd (cc)
one_of_each P (y ∷ xs) zero x h e = let same : y ≡ x = cc in subst P same h.0
one_of_each P (y ∷ xs) (suc k) x h e = one_of_each P xs k x h.1 e

each_placed : {A : Type 0} (P : A → Type 0) (all : List A) (places : List ℕ) (items : List A) → HoldsOfEach P all → AreAt all places items → HoldsOfEach P items
each_placed P all [] [] h e = tt
each_placed P all [] (x ∷ items) h e = absurd (cc)
each_placed P all (k ∷ places) [] h e = absurd (cc)
each_placed P all (k ∷ places) (x ∷ items) h e =
    let first : slice_get all k ≡ Some x = cc in
    let rest : AreAt all places items = cc in
    (one_of_each P all k x h first, each_placed P all places items h rest)

-- ---- the calls of true records may fail

ok_fits : (kind : Kind) (given : Reply) → IsOkOfKind kind given → fits_kind given kind ≡ true
ok_fits kind (reply.Ok v) h = h
ok_fits kind (reply.Err code) h = refl

pub kind_there : (services : ServicesTree) (callee : ℕ) (method : MethodTree) → method_at services callee ≡ Some method → slice_get (kinds_given services) callee ≡ Some method.gives
kind_there services callee method e =
    slice_get-map (λ (m : MethodTree). m.gives) (methods_of services) callee ∙ ap (option_map (λ (m : MethodTree). m.gives)) e

may_fail : (services : ServicesTree) (index : List Occurrence) (m : ℕ) (asked : Asked) (how : How) → 2 ≤ length index → IsCallOf services m asked
    → MayFail (kinds_given services) (call_at index asked how)
may_fail services index m asked Faulted long is =
    (long, (is.callee.gives, kind_there services asked.callee.0 is.callee is.there, ok_fits is.callee.gives asked.reply is.fits))
may_fail services index m asked (Ran tree) long is = tt
may_fail services index m asked (KnownHow steps injected) long is = tt

module _ (services : ServicesTree) (fuel : ℕ) where
  abbrev AreTrue : List Record → Type 0
  AreTrue = HoldsOfEach (IsTrueRecord services fuel)

  longer : (index : List Occurrence) (entry : Occurrence) (n : ℕ) → n ≤ length index → suc n ≤ length (index ++ entry ∷ [])
  longer index entry n h = omega (arith, length-append index (entry ∷ []), h)

  mutual
    unfolding calls_within records_of

    may_within : (index : List Occurrence) (m : ℕ) (calls : CallList) → 1 ≤ length index → HoldsOfEach (IsCallOf services m) (asked_of calls) → AreTrue (records_in calls)
        → HoldsOfEach (MayFail (kinds_given services)) (calls_within index calls)
    may_within index m NoCalls long fit true_records = tt
    may_within index m (AndCall before asked how) long fit true_records =
        let last = each_behind (IsCallOf services m) (asked_of before) (asked ∷ []) fit in
        each_joined (MayFail (kinds_given services)) (calls_within index before) (call_at (index ++ asked.entry ∷ []) asked how ∷ calls_below (index ++ asked.entry ∷ []) how)
        (may_within index m before long (each_front (IsCallOf services m) (asked_of before) (asked ∷ []) fit)
        (each_front (IsTrueRecord services fuel) (records_in before) (records_below how) true_records)) (
          may_fail services (index ++ asked.entry ∷ []) m asked how (longer index asked.entry 1 long) last.0,
          may_below (index ++ asked.entry ∷ []) how (omega (arith, longer index asked.entry 1 long))
              (each_behind (IsTrueRecord services fuel) (records_in before) (records_below how) true_records),
        )

    may_below : (index : List Occurrence) (how : How) → 1 ≤ length index → AreTrue (records_below how) → HoldsOfEach (MayFail (kinds_given services)) (calls_below index how)
    may_below index Faulted long true_records = tt
    may_below index (Ran (Invocation method args calls answer steps)) long true_records =
        may_within index method.0 calls long true_records.0.calls_fit true_records.1
    may_below index (KnownHow steps injected) long true_records = tt

  not_failed : (index : List Occurrence) (asked : Asked) (how : How) → fault_of asked.reply how ≡ None → MayFail (kinds_given services) (call_at index asked how)
  not_failed index asked Faulted e = absurd (cc)
  not_failed index asked (Ran tree) e = tt
  not_failed index asked (KnownHow steps injected) e = tt

  may_in_test : (calls : CallList) → NoneFails calls → AreTrue (records_in calls) → HoldsOfEach (MayFail (kinds_given services)) (calls_within [] calls)
  unfolding calls_within records_of
  may_in_test NoCalls none true_records = tt
  may_in_test (AndCall before asked how) none true_records =
      each_joined (MayFail (kinds_given services)) (calls_within [] before) (call_at (asked.entry ∷ []) asked how ∷ calls_below (asked.entry ∷ []) how)
      (may_in_test before none.0 (each_front (IsTrueRecord services fuel) (records_in before) (records_below how) true_records)) (
        not_failed (asked.entry ∷ []) asked how none.1,
        may_below (asked.entry ∷ []) how (omega arith) (each_behind (IsTrueRecord services fuel) (records_in before) (records_below how) true_records),
      )

-- ---- the sites of true records are counted

-- the same of a body's own calls
abbrev AreCountedHere : CallList → Type 0
AreCountedHere NoCalls = ⊤
AreCountedHere (AndCall before asked how) = AreCountedHere before × (asked.entry.count ≡ calls_at asked.entry.site before + 1)

here_counted : (calls : CallList) → AreCounted calls → AreCountedHere calls
unfolding AreCounted
here_counted NoCalls h = tt
here_counted (AndCall before asked how) h = (here_counted before h.0, h.1)

same_counts : (site : ℕ) (calls others : CallList) → asked_of calls ≡ asked_of others → calls_at site calls ≡ calls_at site others
same_counts site NoCalls NoCalls e = refl
same_counts site NoCalls (AndCall before asked how) e = let none = none_asked (AndCall before asked how) (sym e) in absurd (cc)
same_counts site (AndCall before asked how) NoCalls e = let none = none_asked (AndCall before asked how) e in absurd (cc)
same_counts site (AndCall before asked how) (AndCall other_before other other_how) e =
    let parts = last_same (asked_of before) (asked_of other_before) asked other e in
    ap (λ n. n + (if asked.entry.site == site then 1 else 0)) (same_counts site before other_before parts.0)
    ∙ ap (λ (a : Asked). calls_at site other_before + (if a.entry.site == site then 1 else 0)) parts.1

counted_like : (calls others : CallList) → asked_of calls ≡ asked_of others → AreCountedHere calls → AreCountedHere others
counted_like NoCalls NoCalls e h = tt
counted_like NoCalls (AndCall before asked how) e h = let none = none_asked (AndCall before asked how) (sym e) in absurd (cc)
counted_like (AndCall before asked how) NoCalls e h = tt
counted_like (AndCall before asked how) (AndCall other_before other other_how) e h =
    let parts = last_same (asked_of before) (asked_of other_before) asked other e in
    let counts : calls_at asked.entry.site before ≡ calls_at asked.entry.site other_before = same_counts asked.entry.site before other_before parts.0 in
    let here : asked.entry.count ≡ calls_at asked.entry.site other_before + 1 = h.1 ∙ ap (λ n. n + 1) counts in
    (counted_like before other_before parts.0 h.0, subst (λ (a : Asked). a.entry.count ≡ calls_at a.entry.site other_before + 1) parts.1 here)

of_made : (made : Tree) (calls : CallList) → AreCountedBelow (Ran made) → (record_of made).calls ≡ asked_of calls → AreCountedHere calls
unfolding AreCounted
of_made (Invocation method args own answer steps) calls h e = counted_like own calls e (here_counted own h)

module _ (services : ServicesTree) (fuel : ℕ) where
  true_counted : (item : Record) (calls : CallList) → IsTrueRecord services fuel item → item.calls ≡ asked_of calls → AreCountedHere calls
  true_counted item calls is e =
      of_made is.tree calls (method_counted services (record_source item) fuel item.method item.args [] is.tree is.left is.evaluated)
      (ap (λ r. r.calls) is.recorded ∙ e)

  mutual
    unfolding records_of AreCounted

    counted_within : (calls : CallList) → AreCountedHere calls → HoldsOfEach (IsTrueRecord services fuel) (records_in calls) → AreCounted calls
    counted_within NoCalls here true_records = tt
    counted_within (AndCall before asked how) here true_records = (
      counted_within before here.0 (each_front (IsTrueRecord services fuel) (records_in before) (records_below how) true_records),
      here.1,
      counted_below how (each_behind (IsTrueRecord services fuel) (records_in before) (records_below how) true_records),
    )

    counted_below : (how : How) → HoldsOfEach (IsTrueRecord services fuel) (records_below how) → AreCountedBelow how
    counted_below Faulted true_records = tt
    counted_below (Ran (Invocation method args calls answer steps)) true_records =
        counted_within calls (true_counted (record_of (Invocation method args calls answer steps)) calls true_records.0 refl) true_records.1
    counted_below (KnownHow steps injected) true_records = tt

-- ---- what is spelled

-- with this fuel it is true
true_once : (services : ServicesTree) (fuel : ℕ) (item : Record) → IsTrueRecord services fuel item → IsTrueOnce services item
true_once services fuel item is = (fuel, is)

pub spelled_is_run : SpelledIsRun
spelled_is_run services test fuel records plan uses run true_records spelled =
    let each_true : HoldsOfEach (IsTrueRecord services fuel) (records_in run.calls) =
    each_placed (IsTrueRecord services fuel) records uses (records_in run.calls) true_records spelled.recorded in
    let parts = spelled.by_parts in
    let here : AreCountedHere run.calls =
    counted_like parts.parts.calls run.calls parts.asked
    (here_counted parts.parts.calls (test_counted services (parts_source run.calls) test fuel parts.parts parts.left parts.done)) in
    let counted : AreCounted run.calls = counted_within services fuel run.calls here each_true in
    let of_plan : AreDecided (plan_source (kinds_given services) (injections_of run)) [] run.calls =
    plan_decides (kinds_given services) run.calls spelled.joined (apart_within [] run.calls counted)
    (may_in_test services fuel run.calls spelled.none_fails each_true) in
    let decided : AreDecided (plan_source (kinds_given services) plan) [] run.calls =
    subst (λ p. AreDecided (plan_source (kinds_given services) p) [] run.calls) spelled.injected of_plan in
    joined_is_run services test (plan_source (kinds_given services) plan) fuel run
    (each_so (IsTrueRecord services fuel) (IsTrueOnce services) (true_once services fuel) (records_in run.calls) each_true) parts decided spelled.enough

same_done : {A S : Type 0} (x y : A) (s t : S) → ◌≡◌ {A = Evaluation A S} (Done x s) (Done y t) → x ≡ y
same_done x y s t e = cc

pub one_is_spelled : OneIsSpelled
one_is_spelled services test fuel records plan uses others run other true_records spelled also =
    same_done run other (fuel - steps_of_run run) (fuel - steps_of_run other)
    (sym (spelled_is_run services test fuel records plan uses run true_records spelled)
    ∙ spelled_is_run services test fuel records plan others other true_records also)
