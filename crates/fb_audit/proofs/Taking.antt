-- What is kept once a line is taken.
use Rattle.std.proofs.Common.{◌≡◌, ℕ, Bool, true, false, Option, Some, None, List, [], ◌∷◌, ◌++◌, length, refl, sym, ◌∙◌, subst}
use Rattle.fb_index.specs.declared.fault.Fault.{Fault}
use Rattle.fb_meaning.specs.Each.{HoldsOfEach}
use Rattle.fb_meaning.specs.Records.{IsTrueRecord}
use Rattle.fb_tree.specs.declared.recorded.Record.{Record}
use Rattle.fb_tree.specs.declared.visit.Visit.{Visit}
use Rattle.fb_tree.specs.Records.{records_in}
use Rattle.fb_report.specs.declared.line.Line.{Line}
use Rattle.fb_report.specs.declared.line.Line.TheVariants.{Inv}
use Rattle.fb_report.specs.declared.named.NamedRecord.{NamedRecord}
use Rattle.fb_functest.specs.PlanLines.{PlanLine, plan_line_in}
use Rattle.fb_valid.specs.Lines.{owner_in, owners_told, records_told, made_in}
use Rattle.fb_valid.specs.Rules.{IsInPlace, UsesEarlier, IsNewRecord}
use Rattle.fb_valid.specs.Verdict.{V2, V3, V4, V5, V7, IsFirstNot, line_rules}
use Rattle.fb_tally.specs.Owned.{AreOwnersOf, OwnerRows, UsesAbove}
use Rattle.fb_book.specs.Books.{AreKnown, BookOf}
use Rattle.fb_book.specs.Laws.{AddsLine, AnswersParent, OtherLinesChangeNoBook}
use Rattle.fb_evidence.specs.Deciding.{Decides}
use Rattle.fb_evidence.specs.NewRecords.{TakesRecord, TellsNew}
use Rattle.fb_evidence.specs.SpelledTrees.{TellsTree, TellsTreeOf}
use Rattle.fb_evidence.specs.declared.spelling.Spelled.{Spelled}
use Rattle.fb_audit.specs.declared.known.Known.{Known}
use Rattle.fb_audit.specs.declared.told.Told.{Told}
use Rattle.fb_audit.specs.Kept.{Basis, IsKnownOf, IsProved, choices_of}
use Rattle.fb_audit.specs.Judged.{ChildComesNext, ComesNext, IsJudged, KeepsOne, PlanComesNext, TreeComesNext, plan_told}
use Rattle.fb_audit.proofs.Lines.{makes_none, same_records, told_by_inv, at_places}
use Rattle.fb_audit.proofs.Judging.{inv_keeps, inv_breaks, end_keeps, breaks_V3, breaks_V4, breaks_V5, breaks_V7, plan_keeps}

-- ---- answers

pub it_holds : (P : Type 0) (b : Bool) → b ≡ true → Decides P b → P
it_holds P true is decided = decided
it_holds P false is decided = absurd (cc)

pub it_fails : (P : Type 0) (b : Bool) → b ≡ false → Decides P b → ¬ P
it_fails P true is decided = absurd (cc)
it_fails P false is decided = decided

module _ (basis : Basis) (version fuel : ℕ) (above : List Line) (at : ℕ) (known : Known) where
  -- ---- inv lines

  module _ (id owner : ℕ) (made : NamedRecord) (comes : ComesNext basis version fuel above (Inv id owner made) at known) (answer : Bool)
      (told : TellsNew basis.services fuel made known.store answer) where
    is_new : Decides (IsNewRecord basis.services fuel above made) answer
    is_new = told above (sym comes.kept.records)

    pub inv_refused : answer ≡ false → IsFirstNot (KeepsOne basis version fuel above (Inv id owner made)) line_rules V2
    inv_refused is = inv_breaks basis version fuel above id owner made comes.in_place (it_fails (IsNewRecord basis.services fuel above made) answer is is_new)

    pub inv_taken : answer ≡ true → (store : List Record) (owners : OwnerRows) → TakesRecord basis.services fuel made known.store store answer
        → ((lines : List Line) (line : Line) → AreOwnersOf lines known.owners → owner_in line ≡ Some owner → at ≡ length lines → AreOwnersOf (lines ++ line ∷ []) owners)
        → OtherLinesChangeNoBook → IsJudged basis version fuel above (Inv id owner made) (record { store = store; owners = owners; book = known.book }) None
    inv_taken is store owners takes owns same_book =
        let taken = subst (λ b. TakesRecord basis.services fuel made known.store store b) is takes in (
          inv_keeps basis version fuel above id owner made comes.in_place (it_holds (IsNewRecord basis.services fuel above made) answer is is_new),
          record {
            records = sym (taken.told above (Inv id owner made) (sym comes.kept.records) refl);
            owners = owns above (Inv id owner made) comes.kept.owners refl comes.at_is;
            plans = same_book basis.services basis.test (choices_of basis) fuel above (Inv id owner made) known.book refl comes.kept.plans;
            has_choices = comes.kept.has_choices;
          },
        )

  -- ---- end lines

  pub end_taken : (line : Line) → made_in line ≡ None → plan_line_in line ≡ None → ComesNext basis version fuel above line at known
      → ((owners : OwnerRows) → AreOwnersOf above owners → AreOwnersOf (above ++ line ∷ []) owners)
      → OtherLinesChangeNoBook → IsJudged basis version fuel above line known None
  end_taken line no_record no_plan comes same_owners same_book = (
    end_keeps basis version fuel above line comes.in_place no_record no_plan,
    record {
      records = comes.kept.records ∙ sym (same_records basis.services above line no_record);
      owners = same_owners known.owners comes.kept.owners;
      plans = same_book basis.services basis.test (choices_of basis) fuel above line known.book no_plan comes.kept.plans;
      has_choices = comes.kept.has_choices;
    },
  )

  -- ---- plan lines

  module _ (line : Line) (told : Told) where
    pub plan_refused : PlanComesNext basis version fuel above line at known told → (o : Option (List Fault)) → o ≡ None
        → AnswersParent known.book (choices_of basis) told.parent told.fault.now told.run o → IsFirstNot (KeepsOne basis version fuel above line) line_rules V3
    plan_refused next o none answers =
        let refuses = subst (AnswersParent known.book (choices_of basis) told.parent told.fault.now told.run) none answers in
        breaks_V3 basis version fuel above line (plan_told told) next.comes.in_place next.tells
        (refuses basis.services basis.test fuel above (plan_told told) next.comes.kept.plans (record { parent_is = refl; fault_is = refl; run_is = refl }))

    pub child_comes : PlanComesNext basis version fuel above line at known told → (o : Option (List Fault)) (plan : List Fault) → o ≡ Some plan
        → AnswersParent known.book (choices_of basis) told.parent told.fault.now told.run o → ChildComesNext basis version fuel above line at known told plan
    child_comes next o plan some answers =
        let gives = subst (AnswersParent known.book (choices_of basis) told.parent told.fault.now told.run) some answers in
        let both = gives basis.services basis.test fuel above (plan_told told) next.comes.kept.plans (record { parent_is = refl; fault_is = refl; run_is = refl }) in
        record { plan_comes = next; parent = both.0; has_plan = both.1 }

    module _ (plan : List Fault) (next : ChildComesNext basis version fuel above line at known told plan) where
      in_place : IsInPlace version above line
      in_place = next.plan_comes.comes.in_place

      tells : plan_line_in line ≡ Some (plan_told told)
      tells = next.plan_comes.tells

      kept : IsKnownOf basis fuel above known
      kept = next.plan_comes.comes.kept

      told_tree : (o spelled : Option Spelled) → o ≡ spelled → TellsTreeOf basis.services basis.test fuel known.store plan told.uses.now o
          → TellsTree basis.services basis.test fuel plan above (plan_told told) spelled
      told_tree o spelled is tree =
          subst (TellsTree basis.services basis.test fuel plan above (plan_told told)) is (tree above (plan_told told) (sym kept.records) next.has_plan refl)

      pub tree_refused : (o : Option Spelled) → o ≡ None → TellsTreeOf basis.services basis.test fuel known.store plan told.uses.now o
          → IsFirstNot (KeepsOne basis version fuel above line) line_rules V4
      tree_refused o none tree = breaks_V4 basis version fuel above line (plan_told told) in_place tells next.parent (told_tree o None none tree)

      pub tree_comes : (o : Option Spelled) (spelled : Spelled) → o ≡ Some spelled → TellsTreeOf basis.services basis.test fuel known.store plan told.uses.now o
          → TreeComesNext basis version fuel above line at known told plan spelled
      tree_comes o spelled some tree = record { child_comes = next; tree = told_tree o (Some spelled) some tree }

    module _ (plan : List Fault) (spelled : Spelled) (next : TreeComesNext basis version fuel above line at known told plan spelled) where
      pub later_uses : ¬ (UsesEarlier above (plan_told told)) → IsFirstNot (KeepsOne basis version fuel above line) line_rules V7
      later_uses later =
          breaks_V7 basis version fuel above line (plan_told told) (in_place plan next.child_comes) (tells plan next.child_comes) next.child_comes.parent next.tree.tree later

      pub other_end : UsesEarlier above (plan_told told) → ¬ (told.outcome.now ≡ spelled.outcome) → IsFirstNot (KeepsOne basis version fuel above line) line_rules V5
      other_end uses other =
          breaks_V5 basis version fuel above line (plan_told told) (in_place plan next.child_comes) (tells plan next.child_comes) next.child_comes.parent next.tree.tree uses
          (λ same. other (same ∙ sym (next.tree.tells next.tree.tree).1))

      pub plan_taken : IsProved basis fuel known → UsesEarlier above (plan_told told) → told.outcome.now ≡ spelled.outcome → (owners : OwnerRows) (book : BookOf) (visits : List Visit)
          → ((lines : List Line) (line : Line) (other : PlanLine) → AreOwnersOf lines known.owners → plan_line_in line ≡ Some other → other.run ≡ told.run → other.uses ≡ told.uses.now
          → UsesAbove lines other → at ≡ length lines → AreOwnersOf (lines ++ line ∷ []) owners)
          → visits ≡ spelled.calls → AddsLine known.book book (choices_of basis) at plan told.parent told.fault.now visits → AreKnown basis.faults book.rows
          → IsJudged basis version fuel above line (record { store = known.store; owners = owners; book = book }) None
      plan_taken proved uses same owners book visits owns visits_are adds has_choices =
          let child = next.child_comes in
          let now = kept plan child in
          let tree = next.tree.tree in
          let tell = tells plan child in
          let at_is = child.plan_comes.comes.at_is in (
            plan_keeps basis version fuel above line (plan_told told) (in_place plan child) tell child.parent tree uses (λ other. same ∙ (next.tree.tells other).1),
            record {
              records = now.records ∙ sym (same_records basis.services above line (makes_none line (plan_told told) tell));
              owners = owns above line (plan_told told) now.owners tell refl refl
                  (at_places (records_told basis.services above) (length (owners_told above)) told.uses.now (records_in tree.run.calls) (told_by_inv basis.services above) tree.spells.recorded) at_is;
              plans = adds basis.services basis.test fuel above line (plan_told told) now.plans tell refl refl child.parent child.has_plan tree (sym (next.tree.tells tree).0 ∙ sym visits_are)
                  (subst (HoldsOfEach (IsTrueRecord basis.services fuel)) now.records proved.are_true) at_is;
              has_choices = has_choices;
            },
          )
