-- What the plan of a run's injections decides on its calls.
use Rattle.std.specs.Prelude.{◌≡◌, ℕ, ◌≤◌, nat_lt, Bool, true, false, if◌then◌else◌, List, [], ◌∷◌, ◌++◌, map, filter_map, length, slice_get, find, Option, Some, None, ⊤}
use Rattle.std.specs.Bool.{Decides}
use Rattle.std.specs.Option.{option_map, option_and_then}
use Rattle.std.proofs.Common.{refl, sym, ap, ◌∙◌, arith}
use Rattle.std.proofs.lemmas.Bool.Decides.{nat_tests}
use Rattle.std.proofs.lemmas.Slice.Eq.{slice_eq-Decides}
use Rattle.fb_base.specs.declared.kind.Kind.{Kind}
use Rattle.fb_base.specs.declared.reply.Reply.{Reply}
use Rattle.fb_index.specs.Entry.{Occurrence, same_entry}
use Rattle.fb_index.specs.Index.{same_index}
use Rattle.fb_index.specs.Plan.{fault_at}
use Rattle.fb_index.specs.declared.fault.Fault.{Fault}
use Rattle.fb_tree.specs.Runs.{Invocation, CallList, NoCalls, AndCall, How, Faulted, Ran, Known as KnownHow}
use Rattle.fb_tree.specs.Calls.{PlacedCall, calls_within, calls_below, call_at, visit_of, injection_of}
use Rattle.fb_tree.specs.declared.asked.Asked.{Asked}
use Rattle.fb_transport.specs.Sources.{Source, fits_kind, if_fits, injected_at, fault_or_forward, plan_source}
use Rattle.fb_meaning.specs.CallLaws.{AreDecided, IsDecidedSo}
use Rattle.fb_meaning.specs.Each.{HoldsOfEach, AreApart}
use Rattle.fb_meaning.specs.Spelling.{AreJoined, IsJoined}
use Rattle.fb_meaning.proofs.EachOf.{each_front, each_behind}
use Rattle.fb_meaning.proofs.KnownCalls.{same_entries, own_entry}

same_entry-decides : (a b : Occurrence) → Decides (same_entry a b) (a ≡ b)
same_entry-decides a b = (same_entries a b, λ e. ap (same_entry a) (sym e) ∙ own_entry a)

same_index-decides : (a b : List Occurrence) → Decides (same_index a b) (a ≡ b)
same_index-decides a b = slice_eq-Decides same_entry-decides a b _ refl

-- ---- the fault at an index

abbrev pub faults_of : List PlacedCall → List Fault
faults_of calls = filter_map injection_of (map visit_of calls)

abbrev fault_with : List Occurrence → Reply → Fault
fault_with index given = record { index = index; reply = given }

-- the first fault, and then those of the rest
abbrev faults_and : List Occurrence → Option Reply → List Fault → List Fault
faults_and index None faults = faults
faults_and index (Some given) faults = fault_with index given ∷ faults

first_faults : (c : PlacedCall) (rest : List PlacedCall) (fault : Option Reply) → c.fault ≡ fault → faults_of (c ∷ rest) ≡ faults_and c.index fault (faults_of rest)
first_faults c rest None e = ap (λ f. filter_map injection_of (record { index = c.index; callee = c.asked.callee; fault = f } ∷ map visit_of rest)) e
first_faults c rest (Some given) e = ap (λ f. filter_map injection_of (record { index = c.index; callee = c.asked.callee; fault = f } ∷ map visit_of rest)) e

-- a fault at another index is passed over
passed : (index other : List Occurrence) (fault : Option Reply) (faults : List Fault) → ¬ (index ≡ other) → fault_at (faults_and index fault faults) other ≡ fault_at faults other
passed index other None faults n = refl
passed index other (Some given) faults n = by_test (same_index index other) refl
  where
    by_test : (b : Bool) → same_index index other ≡ b → fault_at (fault_with index given ∷ faults) other ≡ fault_at faults other
    by_test true e = absurd (n ((same_index-decides index other).0 e))
    by_test false e = ap (λ b. option_map (λ (fault : Fault). fault.reply) (if b then Some (fault_with index given) else find (λ fault. same_index fault.index other) faults)) e

met_first : (index : List Occurrence) (given : Reply) (faults : List Fault) → fault_at (fault_with index given ∷ faults) index ≡ Some given
met_first index given faults =
    ap (λ b. option_map (λ (fault : Fault). fault.reply) (if b then Some (fault_with index given) else find (λ fault. same_index fault.index index) faults))
    ((same_index-decides index index).1 refl)

none_at : (calls : List PlacedCall) (index : List Occurrence) → HoldsOfEach (λ other. ¬ (index ≡ other)) (map (λ call. call.index) calls) → fault_at (faults_of calls) index ≡ None
none_at [] index h = refl
none_at (c ∷ calls) index h =
    ap (λ faults. fault_at faults index) (first_faults c calls c.fault refl)
    ∙ passed c.index index c.fault (faults_of calls) (λ e. h.0 (sym e)) ∙ none_at calls index h.1

-- at the index of each call stands its fault
abbrev pub IsInjected : List Fault → PlacedCall → Type 0
IsInjected faults call = fault_at faults call.index ≡ call.fault

module _ (c : PlacedCall) (rest : List PlacedCall) where
  own_fault : (fault : Option Reply) → c.fault ≡ fault → HoldsOfEach (λ other. ¬ (c.index ≡ other)) (map (λ call. call.index) rest) → fault_at (faults_of (c ∷ rest)) c.index ≡ fault
  own_fault None e h = ap (λ faults. fault_at faults c.index) (first_faults c rest None e) ∙ none_at rest c.index h
  own_fault (Some given) e h = ap (λ faults. fault_at faults c.index) (first_faults c rest (Some given) e) ∙ met_first c.index given (faults_of rest)

  stay_injected : (calls : List PlacedCall) → HoldsOfEach (λ other. ¬ (c.index ≡ other)) (map (λ call. call.index) calls)
      → HoldsOfEach (IsInjected (faults_of rest)) calls → HoldsOfEach (IsInjected (faults_of (c ∷ rest))) calls
  stay_injected [] h k = tt
  stay_injected (d ∷ calls) h k = (
    ap (λ faults. fault_at faults d.index) (first_faults c rest c.fault refl) ∙ passed c.index d.index c.fault (faults_of rest) h.0 ∙ k.0,
    stay_injected calls h.1 k.1,
  )

pub each_injected : (calls : List PlacedCall) → AreApart (map (λ call. call.index) calls) → HoldsOfEach (IsInjected (faults_of calls)) calls
each_injected [] h = tt
each_injected (c ∷ calls) h = (own_fault c calls c.fault refl h.0, stay_injected c calls calls h.0 (each_injected calls h.1))

-- ---- faults that a plan may give

-- where it is a fault, it is below the test's own calls and fits the kind that the callee gives
abbrev pub MayBeGiven : List Kind → List Occurrence → ℕ → Option Reply → Type 0
MayBeGiven kinds index callee None = ⊤
MayBeGiven kinds index callee (Some given) = (2 ≤ length index) × ((kind : Kind) × (slice_get kinds callee ≡ Some kind) × (fits_kind given kind ≡ true))

abbrev pub MayFail : List Kind → PlacedCall → Type 0
MayFail kinds call = MayBeGiven kinds call.index call.asked.callee.0 call.fault

-- what is injected where a plan has this at the index
abbrev given_at : List Kind → List Occurrence → ℕ → Option Reply → Option Reply
given_at kinds index callee fault = if nat_lt (length index) 2 then None else option_and_then (λ kind. option_and_then (if_fits kind) fault) (slice_get kinds callee)

none_given : (kinds : List Kind) (index : List Occurrence) (callee : ℕ) → given_at kinds index callee None ≡ None
none_given kinds index callee = by_length (nat_lt (length index) 2)
  where
    by_kind : (kind : Option Kind) → option_and_then (λ kind. option_and_then (if_fits kind) None) kind ≡ None
    by_kind None = refl
    by_kind (Some kind) = refl

    by_length : (b : Bool) → (if b then None else option_and_then (λ kind. option_and_then (if_fits kind) None) (slice_get kinds callee)) ≡ None
    by_length true = refl
    by_length false = by_kind (slice_get kinds callee)

not_short : (n : ℕ) → 2 ≤ n → nat_lt n 2 ≡ false
not_short n h = by_test (nat_lt n 2) refl
  where
    by_test : (b : Bool) → nat_lt n 2 ≡ b → nat_lt n 2 ≡ false
    by_test true e = absurd (grind (arith, nat_tests))
    by_test false e = e

some_given : (kinds : List Kind) (index : List Occurrence) (callee : ℕ) (given : Reply) (kind : Kind) → 2 ≤ length index → slice_get kinds callee ≡ Some kind → fits_kind given kind ≡ true
    → given_at kinds index callee (Some given) ≡ Some given
some_given kinds index callee given kind long there fits =
    ap (λ b. if b then None else option_and_then (λ kind. option_and_then (if_fits kind) (Some given)) (slice_get kinds callee)) (not_short (length index) long)
    ∙ ap (option_and_then (λ kind. option_and_then (if_fits kind) (Some given))) there
    ∙ ap (λ b. if b then Some given else None) fits

given_so : (kinds : List Kind) (index : List Occurrence) (callee : ℕ) (fault : Option Reply) → MayBeGiven kinds index callee fault → given_at kinds index callee fault ≡ fault
given_so kinds index callee None h = none_given kinds index callee
given_so kinds index callee (Some given) h = some_given kinds index callee given (h.1).0 h.0 (h.1).1 (h.1).2

-- what a plan gives, it may give
module _ (kinds : List Kind) (index : List Occurrence) (callee : ℕ) where
  fits_given : (kind : Kind) (fault : Option Reply) (given : Reply) → option_and_then (if_fits kind) fault ≡ Some given → fits_kind given kind ≡ true
  fits_given kind None given e = absurd (cc)
  fits_given kind (Some answer) given e = by_fit (fits_kind answer kind) refl e
    where
      by_fit : (b : Bool) → fits_kind answer kind ≡ b → (if b then Some answer else None) ≡ Some given → fits_kind given kind ≡ true
      by_fit true f e = let same : answer ≡ given = cc in ap (λ r. fits_kind r kind) (sym same) ∙ f
      by_fit false f e = absurd (cc)

  kind_given : (fault : Option Reply) (given : Reply) (kind : Option Kind) → slice_get kinds callee ≡ kind → option_and_then (λ kind. option_and_then (if_fits kind) fault) kind ≡ Some given
      → (kind : Kind) × (slice_get kinds callee ≡ Some kind) × (fits_kind given kind ≡ true)
  kind_given fault given None e f = absurd (cc)
  kind_given fault given (Some kind) e f = (kind, e, fits_given kind fault given f)

  may_be_given : (fault : Option Reply) (given : Reply) → given_at kinds index callee fault ≡ Some given → MayBeGiven kinds index callee (Some given)
  may_be_given fault given = by_length (nat_lt (length index) 2) refl
    where
      by_length : (b : Bool) → nat_lt (length index) 2 ≡ b → (if b then None else option_and_then (λ kind. option_and_then (if_fits kind) fault) (slice_get kinds callee)) ≡ Some given
          → MayBeGiven kinds index callee (Some given)
      by_length true e f = absurd (cc)
      by_length false e f = (grind (arith, nat_tests), kind_given fault given (slice_get kinds callee) refl f)

  pub may_be_injected : (plan : List Fault) (fault : Option Reply) → fault ≡ injected_at kinds plan index callee → MayBeGiven kinds index callee fault
  may_be_injected plan None e = tt
  may_be_injected plan (Some given) e = may_be_given (fault_at plan index) given (sym e)

-- ---- calls that a plan decides so

abbrev IsSo : Source → PlacedCall → Type 0
IsSo source call = source call.index call.asked.callee.0 call.asked.args ≡ Some (fault_or_forward call.fault)

decided_as : (kinds : List Kind) (plan : List Fault) (call : PlacedCall) → IsInjected plan call → MayFail kinds call → IsSo (plan_source kinds plan) call
decided_as kinds plan call injected may =
    ap (λ fault. Some (fault_or_forward fault))
    (ap (given_at kinds call.index call.asked.callee.0) injected ∙ given_so kinds call.index call.asked.callee.0 call.fault may)

each_as : (kinds : List Kind) (plan : List Fault) (calls : List PlacedCall) → HoldsOfEach (IsInjected plan) calls → HoldsOfEach (MayFail kinds) calls → HoldsOfEach (IsSo (plan_source kinds plan)) calls
each_as kinds plan [] h k = tt
each_as kinds plan (c ∷ calls) h k = (decided_as kinds plan c h.0 k.0, each_as kinds plan calls h.1 k.1)

mutual
  unfolding calls_within AreDecided AreJoined

  within_decided : (source : Source) (index : List Occurrence) (calls : CallList) → AreJoined calls → HoldsOfEach (IsSo source) (calls_within index calls) → AreDecided source index calls
  within_decided source index NoCalls joined h = tt
  within_decided source index (AndCall before asked how) joined h =
      let here = each_behind (IsSo source) (calls_within index before) (call_at (index ++ asked.entry ∷ []) asked how ∷ calls_below (index ++ asked.entry ∷ []) how) h in (
        within_decided source index before joined.0
            (each_front (IsSo source) (calls_within index before) (call_at (index ++ asked.entry ∷ []) asked how ∷ calls_below (index ++ asked.entry ∷ []) how) h),
        below_decided source (index ++ asked.entry ∷ []) asked how joined.1 here.0 here.1,
      )

  below_decided : (source : Source) (index : List Occurrence) (asked : Asked) (how : How) → IsJoined asked how → IsSo source (call_at index asked how)
      → HoldsOfEach (IsSo source) (calls_below index how) → IsDecidedSo source index asked how
  below_decided source index asked Faulted joined so h = so
  below_decided source index asked (Ran (Invocation method args calls answer steps)) joined so h =
      (so, joined.0, joined.1, joined.2, within_decided source index calls joined.3 h)
  below_decided source index asked (KnownHow steps injected) joined so h = absurd joined

-- where its faults may be given, the plan of what a run injects decides so
pub plan_decides : (kinds : List Kind) (calls : CallList) → AreJoined calls → AreApart (map (λ call. call.index) (calls_within [] calls))
    → HoldsOfEach (MayFail kinds) (calls_within [] calls) → AreDecided (plan_source kinds (faults_of (calls_within [] calls))) [] calls
plan_decides kinds calls joined apart may =
    within_decided (plan_source kinds (faults_of (calls_within [] calls))) [] calls joined
    (each_as kinds (faults_of (calls_within [] calls)) (calls_within [] calls) (each_injected (calls_within [] calls) apart) may)
