-- What holds of the calls of each evaluation.
use Rattle.std.specs.Prelude.{◌≡◌, ℕ, ◌+◌, ⊤, List, [], ◌∷◌, ◌++◌, Some}
use Rattle.fb_index.specs.Entry.{Occurrence}
use Rattle.fb_tree.specs.Runs.{Invocation, CallList, NoCalls, AndCall, How, Faulted, Ran, Known as KnownHow}
use Rattle.fb_tree.specs.Calls.{calls_at}
use Rattle.fb_tree.specs.declared.asked.Asked.{Asked}
use Rattle.fb_transport.specs.Sources.{Source}
use Rattle.fb_transport.specs.declared.decision.Decision.TheVariants.{Forward, Fault, Known}

-- ---- calls are only added at the end

-- a call with its request, its reply and how it got that
abbrev pub Answer : Type 0
Answer = Asked × How

-- those of a list, the first call first
abbrev pub answers_of : CallList → List Answer
answers_of NoCalls = []
answers_of (AndCall before asked how) = answers_of before ++ (asked, how) ∷ []

abbrev pub extended : CallList → List Answer → CallList
extended calls [] = calls
extended calls (added ∷ more) = extended (AndCall calls added.0 added.1) more

abbrev pub ExtendsCalls : CallList → CallList → Type 0
ExtendsCalls before after = (added : List Answer) × (after ≡ extended before added)

-- ---- counts of sites

-- each call's count is one more than the calls made before it from its site, in all bodies
unfoldable mutual
  pub AreCounted : CallList → Type 0
  AreCounted NoCalls = ⊤
  AreCounted (AndCall before asked how) = AreCounted before × (asked.entry.count ≡ calls_at asked.entry.site before + 1) × AreCountedBelow how

  pub AreCountedBelow : How → Type 0
  AreCountedBelow Faulted = ⊤
  AreCountedBelow (Ran (Invocation method args calls reply steps)) = AreCounted calls
  AreCountedBelow (KnownHow steps injected) = ⊤

-- ---- decisions

-- each call got what the source decides at its index: a fault, a reply that is known, or the reply of its callee, which
-- was evaluated on its arguments
unfoldable mutual
  pub AreDecided : Source → List Occurrence → CallList → Type 0
  AreDecided source index NoCalls = ⊤
  AreDecided source index (AndCall before asked how) = AreDecided source index before × IsDecidedSo source (index ++ asked.entry ∷ []) asked how

  pub IsDecidedSo : Source → List Occurrence → Asked → How → Type 0
  IsDecidedSo source index asked Faulted = source index asked.callee.0 asked.args ≡ Some (Fault asked.reply)
  IsDecidedSo source index asked (Ran (Invocation method args calls reply steps)) =
      (source index asked.callee.0 asked.args ≡ Some Forward) × (method ≡ asked.callee) × (args ≡ asked.args) × (reply ≡ asked.reply)
      × AreDecided source index calls
  IsDecidedSo source index asked (KnownHow steps injected) = source index asked.callee.0 asked.args ≡ Some (Known asked.reply steps injected)

-- ---- how many

-- the calls of a body and all calls below them
unfoldable mutual
  pub calls_count : CallList → ℕ
  calls_count NoCalls = 0
  calls_count (AndCall before asked how) = calls_count before + (1 + calls_count_below how)

  pub calls_count_below : How → ℕ
  calls_count_below Faulted = 0
  calls_count_below (Ran (Invocation method args calls reply steps)) = calls_count calls
  calls_count_below (KnownHow steps injected) = 0
