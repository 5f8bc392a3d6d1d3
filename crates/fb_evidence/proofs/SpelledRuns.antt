-- What is derived is the tree that its uses spell under what it injects, and no others spell another.
use Rattle.std.proofs.Common.{◌≡◌, ℕ, ◌-◌, Option, Some, None, List, [], ◌∷◌, map, slice_get, refl, sym, ap, ◌∙◌, subst}
use Rattle.std.specs.Prelude.{All, IsNone}
use Rattle.std.proofs.lemmas.Option.{same_Some}
use Rattle.fb_index.specs.declared.fault.Fault.{Fault}
use Rattle.fb_syntax.specs.Trees.{ServicesTree, TestTree}
use Rattle.fb_check.specs.FirstRefusal.{first_refusal, first_refusal_of_test}
use Rattle.fb_tree.specs.Calls.{injections_of}
use Rattle.fb_tree.specs.Records.{records_in, steps_of_run}
use Rattle.fb_tree.specs.Runs.{TestRun}
use Rattle.fb_tree.specs.declared.recorded.Record.{Record}
use Rattle.fb_meaning.specs.DecisionLaws.{IsTrueOnce}
use Rattle.fb_meaning.specs.Each.{HoldsOfEach}
use Rattle.fb_meaning.specs.Evaluations.{Evaluation, Done}
use Rattle.fb_meaning.specs.Kinds.{PlansGiveKinds, TestsKeepKinds}
use Rattle.fb_meaning.specs.Records.{IsTrueRecord}
use Rattle.fb_meaning.specs.Runs.{run_of, IsCovered}
use Rattle.fb_meaning.specs.Spelling.{AreAt, CoveredIsSpelled, OneIsSpelled, SpelledIsRun, SpellsRun}
use Rattle.fb_report.specs.declared.line.Line.{Line}
use Rattle.fb_functest.specs.PlanLines.{PlanLine}
use Rattle.fb_store.specs.Following.{AreDifferent}
use Rattle.fb_stitch.specs.Derivations.{IsDerived}
use Rattle.fb_stitch.specs.Sources.{AreTrueOf}
use Rattle.fb_stitch.specs.declared.derivation.Derived.{Derived}
use Rattle.fb_valid.specs.Lines.{records_told}
use Rattle.fb_valid.specs.Trees.{plan_below, IsSpelled}
use Rattle.fb_evidence.specs.SpelledTrees.{CallMethods, GivesSpelled, HasMethod, IsOfUses, TakesSpelled, TellsRun, TellsTree, TellsTreeOf}
use Rattle.fb_evidence.specs.declared.spelling.Spelled.{Spelled}
use Rattle.fb_evidence.proofs.Each.{each_so}
use Rattle.fb_evidence.proofs.Methods.{visits_have_methods}

-- what is true with this fuel is true with some
pub true_once : (services : ServicesTree) (fuel : ℕ) (records : List Record) → HoldsOfEach (IsTrueRecord services fuel) records → AreTrueOf services records
true_once services fuel = each_so (IsTrueRecord services fuel) (IsTrueOnce services) (λ item is. (fuel, is))

-- ---- places

same_front : {A : Type 0} (x y : A) (xs ys : List A) → x ∷ xs ≡ y ∷ ys → (x ≡ y) × (xs ≡ ys)
same_front x y xs ys e = (cc, cc)

module _ (records : List Record) (different : AreDifferent records) where
  -- different records have one place each
  same_places : (uses others : List ℕ) (items : List Record) → AreAt records uses items → AreAt records others items → uses ≡ others
  same_places [] [] items first second = refl
  same_places [] (other ∷ others) [] first second = absurd (cc)
  same_places [] others (item ∷ items) first second = absurd (cc)
  same_places (number ∷ uses) others [] first second = absurd (cc)
  same_places (number ∷ uses) [] (item ∷ items) first second = absurd (cc)
  same_places (number ∷ uses) (other ∷ others) (item ∷ items) first second =
      let mine = same_front (slice_get records number) (Some item) (map (slice_get records) uses) (map Some items) first in
      let theirs = same_front (slice_get records other) (Some item) (map (slice_get records) others) (map Some items) second in
      ap (λ n. n ∷ uses) (different number other item mine.0 theirs.0) ∙ ap (λ ns. other ∷ ns) (same_places uses others items mine.1 theirs.1)

-- ---- runs

one_run : (means : Evaluation TestRun ℕ) (run other : TestRun) (left rest : ℕ) → means ≡ Done run left → means ≡ Done other rest → run ≡ other
one_run means run other left rest here there = (let both = sym here ∙ there in done_same both)
  where
    done_same : ◌≡◌ {A = Evaluation TestRun ℕ} (Done run left) (Done other rest) → run ≡ other
    done_same both = cc

module _ (services : ServicesTree) (test : TestTree) (fuel : ℕ) (records : List Record) (plan : List Fault) (uses : List ℕ)
    (truths : HoldsOfEach (IsTrueRecord services fuel) records) where
  abbrev Spells : TestRun → Type 0
  Spells run = SpellsRun services test fuel records plan uses run

  pub none_covered : SpelledIsRun → CoveredIsSpelled → ¬ (IsCovered services test fuel records plan) → GivesSpelled services test fuel records plan uses None
  none_covered is_run covered uncovered run spells =
      uncovered ((covered services test fuel records plan).1 (record {
        run = run;
        left = fuel - steps_of_run run;
        done = is_run services test fuel records plan uses run truths spells;
        uses = uses;
        spelled = subst (λ injected. SpellsRun services test fuel records injected uses run) (sym spells.injected) spells;
      }))

  module _ (is_run : SpelledIsRun) (different : AreDifferent records) (derived : Derived) (is : IsDerived services test fuel records plan derived) where
    derived_spells : IsOfUses derived plan uses → Spells is.run
    derived_spells of_uses =
        subst (λ numbers. SpellsRun services test fuel records plan numbers is.run) of_uses.used
        (subst (λ injected. SpellsRun services test fuel records injected derived.uses is.run) (sym is.injected ∙ of_uses.injected) is.spelled)

    -- what is spelled is the run that was derived
    same_run : (run : TestRun) → Spells run → is.run ≡ run
    same_run run spells =
        one_run (run_of services test fuel plan) is.run run is.left (fuel - steps_of_run run) is.done (is_run services test fuel records plan uses run truths spells)

    spelled_of_uses : (run : TestRun) → Spells run → IsOfUses derived plan uses
    spelled_of_uses run spells =
        let one = same_run run spells in
        record {
          injected = is.injected ∙ ap injections_of one ∙ spells.injected;
          used = same_places records different derived.uses uses (records_in run.calls)
              (subst (λ (r : TestRun). AreAt records derived.uses (records_in r.calls)) one is.spelled.recorded) spells.recorded;
        }

    pub gives_spelled : (told : Option Spelled) → TakesSpelled derived plan uses told → GivesSpelled services test fuel records plan uses told
    gives_spelled None takes = λ run spells. takes (spelled_of_uses run spells)
    gives_spelled (Some spelled) takes = record {
      run = is.run;
      spells = derived_spells takes.0;
      tells = (takes.1 ∙ is.calls, takes.2 ∙ is.outcome);
    }

  pub calls_have_methods : IsNone (first_refusal services) → IsNone (first_refusal_of_test services test) → TestsKeepKinds → PlansGiveKinds
      → (derived : Derived) → IsDerived services test fuel records plan derived → (told : Option Spelled) → TakesSpelled derived plan uses told → CallMethods services told
  calls_have_methods accepted accepted_test keep give derived is None takes = tt
  calls_have_methods accepted accepted_test keep give derived is (Some spelled) takes =
      subst (All (HasMethod services)) (sym (takes.1 ∙ is.calls))
      (visits_have_methods services test accepted accepted_test keep give fuel plan is.run is.left is.done)

  -- ---- lines

  module _ (above : List Line) (line : PlanLine) (told_are : records_told services above ≡ records) (has_plan : plan_below above line ≡ Some plan) (uses_are : line.uses ≡ uses) where
    same_plan : (other : IsSpelled services test fuel above line) → other.plan ≡ plan
    same_plan other = same_Some other.plan plan (sym other.has_plan ∙ has_plan)

    spells_here : (other : IsSpelled services test fuel above line) → Spells other.run
    spells_here other =
        subst (λ known. SpellsRun services test fuel known plan uses other.run) told_are
        (subst (λ numbers. SpellsRun services test fuel (records_told services above) plan numbers other.run) uses_are
        (subst (λ faults. SpellsRun services test fuel (records_told services above) faults line.uses other.run) (same_plan other) other.spells))

    is_spelled : (run : TestRun) → Spells run → IsSpelled services test fuel above line
    is_spelled run spells = record {
      plan = plan;
      has_plan = has_plan;
      run = run;
      spells = subst (λ known. SpellsRun services test fuel known plan line.uses run) (sym told_are)
          (subst (λ numbers. SpellsRun services test fuel records plan numbers run) (sym uses_are) spells);
    }

    pub tells_tree : OneIsSpelled → (told : Option Spelled) → GivesSpelled services test fuel records plan uses told → TellsTree services test fuel plan above line told
    tells_tree one None none = λ tree. none tree.run (spells_here tree)
    tells_tree one (Some spelled) gives = record {
      tree = is_spelled gives.run gives.spells;
      plans = same_plan;
      tells = λ other.
          subst (TellsRun spelled) (one services test fuel records plan uses uses gives.run other.run truths gives.spells (spells_here other)) gives.tells;
    }

  pub tells_tree_of : OneIsSpelled → (told : Option Spelled) → GivesSpelled services test fuel records plan uses told
      → TellsTreeOf services test fuel records plan uses told
  tells_tree_of one told gives above line told_are has_plan uses_are = tells_tree above line told_are has_plan uses_are one told gives
