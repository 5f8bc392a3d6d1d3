-- A run that begins by injecting its plan injects nothing else.
use Rattle.std.proofs.Common.{◌≡◌, ℕ, nat_lt, Bool, true, false, Option, Some, None, List, [], ◌∷◌, ◌++◌, map, length, slice_get, find, filter_map, refl, sym, ap, ◌∙◌, subst, append-nil, if◌then◌else◌}
use Rattle.std.specs.Bool.{Decides}
use Rattle.std.specs.Cmp.Lexicographic.{pointwise_decides}
use Rattle.std.specs.Option.{option_map, option_and_then}
use Rattle.std.proofs.lemmas.Bool.Decides.{Decides-and, Decides-eqb, Decides-like}
use Rattle.fb_base.specs.Front.{IsFrontOf}
use Rattle.fb_base.specs.declared.kind.Kind.{Kind}
use Rattle.fb_base.specs.declared.reply.Reply.{Reply}
use Rattle.fb_index.specs.Entry.{Occurrence, same_entry}
use Rattle.fb_index.specs.Index.{same_index}
use Rattle.fb_index.specs.Plan.{fault_at}
use Rattle.fb_index.specs.declared.fault.Fault.{Fault}
use Rattle.fb_tree.specs.Calls.{PlacedCall, calls_of, visit_of, injection_of, injections_of}
use Rattle.fb_tree.specs.Runs.{TestRun}
use Rattle.fb_transport.specs.Sources.{if_fits, fits_kind, injected_at, fault_or_forward, plan_source}
use Rattle.fb_meaning.specs.Each.{HoldsOfEach, AreApart}
use Rattle.fb_meaning.specs.RunLaws.{failure_of, IsAnswered, IsLawfulRun}
use Rattle.fb_replay.proofs.Each.{each_behind}

same_entry-Decides : (a b : Occurrence) → Decides (same_entry a b) (a ≡ b)
same_entry-Decides a b =
    Decides-like (same_entry a b) (λ e i. record { site = e.0 i; count = e.1 i })
    (λ e. (ap (λ (x : Occurrence). x.site) e, ap (λ (x : Occurrence). x.count) e))
    (Decides-and _ _ (Decides-eqb a.site b.site) (Decides-eqb a.count b.count))

same_index-Decides : (a b : List Occurrence) → Decides (same_index a b) (a ≡ b)
same_index-Decides = pointwise_decides same_entry-Decides

-- ---- the faults of calls

abbrev faults_of : List PlacedCall → List Fault
faults_of calls = filter_map injection_of (map visit_of calls)

abbrev fault_with : List Occurrence → Reply → Fault
fault_with index given = record { index = index; reply = given }

-- the fault of a call, and then those of the calls behind it
abbrev faults_and : List Occurrence → Option Reply → List Fault → List Fault
faults_and index None faults = faults
faults_and index (Some given) faults = fault_with index given ∷ faults

faults_from : (call : PlacedCall) (calls : List PlacedCall) (fault : Option Reply) → call.fault ≡ fault
    → faults_and call.index fault (faults_of calls) ≡ faults_of (call ∷ calls)
faults_from call calls None is = ap (λ f. filter_map injection_of (record { index = call.index; callee = call.asked.callee; fault = f } ∷ map visit_of calls)) (sym is)
faults_from call calls (Some given) is = ap (λ f. filter_map injection_of (record { index = call.index; callee = call.asked.callee; fault = f } ∷ map visit_of calls)) (sym is)

-- what holds of each call holds of each fault
module _ (P : PlacedCall → Type 0) (Q : Fault → Type 0)
    (passes : (call : PlacedCall) (given : Reply) → call.fault ≡ Some given → P call → Q (fault_with call.index given)) where
  first_fault : (call : PlacedCall) (fault : Option Reply) (faults : List Fault) → call.fault ≡ fault → P call → HoldsOfEach Q faults
      → HoldsOfEach Q (faults_and call.index fault faults)
  first_fault call None faults is has each = each
  first_fault call (Some given) faults is has each = (passes call given is has, each)

  each_fault : (calls : List PlacedCall) → HoldsOfEach P calls → HoldsOfEach Q (faults_of calls)
  each_fault [] each = tt
  each_fault (call ∷ calls) each =
      subst (HoldsOfEach Q) (faults_from call calls call.fault refl)
      (first_fault call call.fault (faults_of calls) refl each.0 (each_fault calls each.1))

-- ---- indexes

abbrev IsElsewhere : List Occurrence → Fault → Type 0
IsElsewhere index fault = ¬ (index ≡ fault.index)

-- no two of the faults have one index
abbrev Differ : List Fault → Type 0
Differ [] = Unit {0}
Differ (fault ∷ faults) = HoldsOfEach (IsElsewhere fault.index) faults × Differ faults

each_index : (index : List Occurrence) (calls : List PlacedCall) → HoldsOfEach (λ other. ¬ (index ≡ other)) (map (λ call. call.index) calls)
    → HoldsOfEach (λ (call : PlacedCall). ¬ (index ≡ call.index)) calls
each_index index [] each = tt
each_index index (call ∷ calls) each = (each.0, each_index index calls each.1)

first_differs : (index : List Occurrence) (fault : Option Reply) (faults : List Fault) → HoldsOfEach (IsElsewhere index) faults → Differ faults
    → Differ (faults_and index fault faults)
first_differs index None faults elsewhere differ = differ
first_differs index (Some given) faults elsewhere differ = (elsewhere, differ)

faults_differ : (calls : List PlacedCall) → AreApart (map (λ call. call.index) calls) → Differ (faults_of calls)
faults_differ [] apart = tt
faults_differ (call ∷ calls) apart =
    subst Differ (faults_from call calls call.fault refl)
    (first_differs call.index call.fault (faults_of calls)
    (each_fault (λ other. ¬ (call.index ≡ other.index)) (IsElsewhere call.index) (λ other given is elsewhere. elsewhere) calls (each_index call.index calls apart.0))
    (faults_differ calls apart.1))

-- no fault before one has its index
none_before : (plan : List Fault) (fault : Fault) (rest : List Fault) → Differ (plan ++ fault ∷ rest) → fault_at plan fault.index ≡ None
none_before [] fault rest differ = refl
none_before (first ∷ plan) fault rest differ = by_test (same_index first.index fault.index) refl (none_before plan fault rest differ.1)
  where
    by_test : (same : Bool) → same_index first.index fault.index ≡ same → fault_at plan fault.index ≡ None → fault_at (first ∷ plan) fault.index ≡ None
    by_test true is none =
        absurd ((each_behind (IsElsewhere first.index) plan (fault ∷ rest) differ.0).0 ((same_index-Decides first.index fault.index).0 is))
    by_test false is none =
        ap (λ same. option_map (λ (f : Fault). f.reply) (if same then Some first else find (λ f. same_index f.index fault.index) plan)) is ∙ none

-- ---- faults that a plan gives

-- the plan has it
abbrev IsPlanned : List Fault → Fault → Type 0
IsPlanned plan fault = fault_at plan fault.index ≡ Some fault.reply

failure_is : (given : Option Reply) → failure_of (Some (fault_or_forward given)) ≡ given
failure_is None = refl
failure_is (Some given) = refl

fitting : (kind : Kind) (found : Option Reply) (given : Reply) → option_and_then (if_fits kind) found ≡ Some given → found ≡ Some given
fitting kind None given is = absurd (cc)
fitting kind (Some answer) given is = by_fit (fits_kind answer kind) refl is
  where
    by_fit : (fits : Bool) → fits_kind answer kind ≡ fits → (if fits then Some answer else None) ≡ Some given → Some answer ≡ Some given
    by_fit true e f = f
    by_fit false e f = absurd (cc)

found_in : (kinds : List Kind) (plan : List Fault) (index : List Occurrence) (callee : ℕ) (given : Reply)
    → injected_at kinds plan index callee ≡ Some given → fault_at plan index ≡ Some given
found_in kinds plan index callee given = by_length (nat_lt (length index) 2)
  where
    by_kind : (kind : Option Kind) → option_and_then (λ k. option_and_then (if_fits k) (fault_at plan index)) kind ≡ Some given → fault_at plan index ≡ Some given
    by_kind None is = absurd (cc)
    by_kind (Some kind) is = fitting kind (fault_at plan index) given is

    by_length : (short : Bool)
        → (if short then None else option_and_then (λ k. option_and_then (if_fits k) (fault_at plan index)) (slice_get kinds callee)) ≡ Some given
        → fault_at plan index ≡ Some given
    by_length true is = absurd (cc)
    by_length false is = by_kind (slice_get kinds callee) is

planned : (kinds : List Kind) (plan : List Fault) (call : PlacedCall) (given : Reply) → call.fault ≡ Some given
    → IsAnswered (plan_source kinds plan) call → IsPlanned plan (fault_with call.index given)
planned kinds plan call given is answered =
    found_in kinds plan call.index call.asked.callee.0 given
    (sym (failure_is (injected_at kinds plan call.index call.asked.callee.0)) ∙ sym answered ∙ is)

-- ---- nothing comes behind the plan's own faults

nothing_behind : (plan injected rest : List Fault) → HoldsOfEach (IsPlanned plan) injected → Differ injected → injected ≡ plan ++ rest → injected ≡ plan
nothing_behind plan injected [] each differ is = is ∙ append-nil plan
nothing_behind plan injected (fault ∷ rest) each differ is =
    let had = (each_behind (IsPlanned plan) plan (fault ∷ rest) (subst (HoldsOfEach (IsPlanned plan)) is each)).0 in
    let lacked = none_before plan fault rest (subst Differ is differ) in
    absurd (cc)

-- where the injections of a plan's run begin with the plan, they are the plan
pub plan_is_met : (kinds : List Kind) (plan : List Fault) (fuel : ℕ) (run : TestRun) → IsLawfulRun (plan_source kinds plan) fuel run
    → IsFrontOf plan (injections_of run) → injections_of run ≡ plan
plan_is_met kinds plan fuel run lawful front =
    nothing_behind plan (injections_of run) front.0
    (each_fault (IsAnswered (plan_source kinds plan)) (IsPlanned plan) (planned kinds plan) (calls_of run) lawful.answered)
    (faults_differ (calls_of run) lawful.apart) front.1
