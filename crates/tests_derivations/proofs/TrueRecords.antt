-- Records of runs are true, and so are those of a store to which one is added.
use Rattle.std.proofs.Common.{◌≡◌, ◌≤◌, ℕ, Bool, true, false, cond, List, [], ◌∷◌, ◌++◌, length, get_or, refl, sym, ap, ◌∙◌, subst, arith}
use Rattle.std.specs.Prelude.{IsNone}
use Rattle.std.specs.List.{All, list_any}
use Rattle.std.proofs.lemmas.List.Elements.{All-nil, All-cons}
use Rattle.fb_index.specs.declared.fault.Fault.{Fault}
use Rattle.fb_syntax.specs.Trees.{ServicesTree, TestTree}
use Rattle.fb_check.specs.FirstRefusal.{first_refusal, first_refusal_of_test}
use Rattle.fb_tree.specs.Agreement.{RecordsAgree}
use Rattle.fb_tree.specs.Records.{record_of, records_of, records_in, records_below}
use Rattle.fb_tree.specs.Runs.{Tree, Invocation, CallList, NoCalls, AndCall, Ran, TestRun}
use Rattle.fb_tree.specs.Sameness.{same_record}
use Rattle.fb_tree.specs.Views.{view_how, view_asked, view_calls, calls_and}
use Rattle.fb_tree.specs.declared.node.Made.{Made}
use Rattle.fb_tree.specs.declared.recorded.Record.{Record}
use Rattle.fb_meaning.specs.DecisionLaws.{IsTrueOnce}
use Rattle.fb_meaning.specs.Each.{HoldsOfEach}
use Rattle.fb_meaning.specs.Evaluations.{Done}
use Rattle.fb_meaning.specs.Kinds.{RecordsOfRunsAreTrue}
use Rattle.fb_meaning.specs.RecordLaws.{TrueRecordsAgree}
use Rattle.fb_meaning.specs.Records.{IsTrueRecord}
use Rattle.fb_meaning.specs.Runs.{run_of}
use Rattle.fb_store.specs.Following.{with_record}
use Rattle.fb_stitch.specs.Sources.{AreTrueOf}

-- ---- each of a list

module _ {A : Type 0} (P Q : A → Type 0) (also : (x : A) → P x → Q x) where
  each_also : (xs : List A) → HoldsOfEach P xs → HoldsOfEach Q xs
  each_also [] each = tt
  each_also (x ∷ xs) each = (also x each.0, each_also xs each.1)

  all_also : (xs : List A) → HoldsOfEach P xs → All Q xs
  all_also [] each = All-nil Q
  all_also (x ∷ xs) each = All-cons Q x xs (also x each.0) (all_also xs each.1)

module _ {A : Type 0} (P : A → Type 0) where
  of_front : (xs ys : List A) → HoldsOfEach P (xs ++ ys) → HoldsOfEach P xs
  of_front [] ys each = tt
  of_front (x ∷ xs) ys each = (each.0, of_front xs ys each.1)

  with_last : (xs : List A) (x : A) → HoldsOfEach P xs → P x → HoldsOfEach P (xs ++ x ∷ [])
  with_last [] x each last = (last, tt)
  with_last (y ∷ xs) x each last = (each.0, with_last xs x each.1 last)

-- ---- runs

pub run_true : RecordsOfRunsAreTrue → (services : ServicesTree) (test : TestTree) → IsNone (first_refusal services) → IsNone (first_refusal_of_test services test)
    → (fuel : ℕ) (plan : List Fault) (run : TestRun) (left : ℕ) → run_of services test fuel plan ≡ Done run left → AreTrueOf services (records_in run.calls)
run_true law services test accepted accepted_test fuel plan run left done =
    each_also (IsTrueRecord services fuel) (IsTrueOnce services) (λ item is. (fuel, is)) (records_in run.calls)
    (law services test accepted accepted_test fuel fuel plan run left done (omega arith))

module _ (P : Record → Type 0) where
  of_calls_before : (before : CallList) (calls : List Made) → HoldsOfEach P (records_in (calls_and before calls)) → HoldsOfEach P (records_in before)
  unfolding records_of calls_and
  of_calls_before before [] each = each
  of_calls_before before (made ∷ rest) each =
      of_front P (records_in before) (records_below (view_how made.how)) (of_calls_before (AndCall before (view_asked made) (view_how made.how)) rest each)

  of_tree : (tree : Tree) → HoldsOfEach P (records_of tree) → P (record_of tree)
  unfolding records_of
  of_tree (Invocation method args calls reply steps) each = each.0

  -- the first call, where its callee was evaluated
  pub of_first : (calls : List Made) (made : Made) (tree : Tree) → 1 ≤ length calls → made ≡ get_or calls 0 made → view_how made.how ≡ Ran tree
      → HoldsOfEach P (records_in (view_calls calls)) → P (record_of tree)
  unfolding records_of calls_and
  of_first [] made tree some is ran each = absurd (omega arith)
  of_first (it ∷ rest) made tree some is ran each =
      let how : view_how it.how ≡ Ran tree = ap (λ call. view_how call.how) (sym is) ∙ ran in
      of_tree tree (subst (λ how. HoldsOfEach P (records_below how)) how (of_calls_before (AndCall NoCalls (view_asked it) (view_how it.how)) rest each))

-- ---- stores

module _ (services : ServicesTree) (item : Record) (known : List Record) (is : IsTrueOnce services item) (each : AreTrueOf services known) where
  pub all_agree : TrueRecordsAgree → All (RecordsAgree item) known
  all_agree law = all_also (IsTrueOnce services) (RecordsAgree item) (λ other also. law services is.0 also.0 item other is.1 also.1) known each

  pub still_true : AreTrueOf services (with_record known item)
  unfolding with_record
  still_true = by (list_any (same_record item) known) refl
    where
      by : (b : Bool) → list_any (same_record item) known ≡ b → AreTrueOf services (with_record known item)
      by true among = subst (AreTrueOf services) (sym (ap (λ b. cond b known (known ++ item ∷ [])) among)) each
      by false new = subst (AreTrueOf services) (sym (ap (λ b. cond b known (known ++ item ∷ [])) new)) (with_last (IsTrueOnce services) known item each is)
