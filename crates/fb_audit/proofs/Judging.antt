-- Which rule a line breaks first.
use Rattle.std.proofs.Common.{◌≡◌, ℕ, Some, None, List, [], ◌∷◌, refl, sym, ◌∙◌, subst}
use Rattle.std.proofs.lemmas.Option.{same_Some}
use Rattle.fb_meaning.specs.Each.{HoldsOfEach}
use Rattle.fb_report.specs.declared.line.Line.{Line}
use Rattle.fb_report.specs.declared.line.Line.TheVariants.{Inv}
use Rattle.fb_report.specs.declared.named.NamedRecord.{NamedRecord}
use Rattle.fb_functest.specs.PlanLines.{PlanLine, plan_line_in}
use Rattle.fb_valid.specs.Lines.{made_in}
use Rattle.fb_valid.specs.Rules.{OfPlan, IsInPlace, IsNewRecord, HasParent, EndsAsItsTree, UsesEarlier}
use Rattle.fb_valid.specs.Trees.{IsSpelled}
use Rattle.fb_valid.specs.Verdict.{V1, V2, V3, V4, V5, V7, IsFirstNot, line_rules}
use Rattle.fb_audit.specs.Kept.{Basis, choices_of}
use Rattle.fb_audit.specs.Judged.{KeepsOne}
use Rattle.fb_audit.proofs.Lines.{makes_none}

module _ (basis : Basis) (version fuel : ℕ) (above : List Line) where
  -- ---- any line

  pub out_of_place : (line : Line) → ¬ (IsInPlace version above line) → IsFirstNot (KeepsOne basis version fuel above line) line_rules V1
  out_of_place line fails = record { before = []; after = V2 ∷ V3 ∷ V4 ∷ V7 ∷ V5 ∷ []; cut = refl; hold = tt; fails = fails }

  -- ---- inv lines

  module _ (id owner : ℕ) (made : NamedRecord) (in_place : IsInPlace version above (Inv id owner made)) where
    pub inv_keeps : IsNewRecord basis.services fuel above made → HoldsOfEach (KeepsOne basis version fuel above (Inv id owner made)) line_rules
    inv_keeps new = (in_place, ((λ other is. subst (IsNewRecord basis.services fuel above) (same_Some made other is) new), ((λ told tells. absurd (cc)), ((λ told tells. absurd (cc)), ((λ told tells. absurd (cc)), ((λ told tells. absurd (cc)), tt))))))

    pub inv_breaks : ¬ (IsNewRecord basis.services fuel above made) → IsFirstNot (KeepsOne basis version fuel above (Inv id owner made)) line_rules V2
    inv_breaks old = record { before = V1 ∷ []; after = V3 ∷ V4 ∷ V7 ∷ V5 ∷ []; cut = refl; hold = (in_place, tt); fails = λ new. old (new made refl) }

  -- ---- lines that are no inv and no plan lines

  pub end_keeps : (line : Line) → IsInPlace version above line → made_in line ≡ None → plan_line_in line ≡ None → HoldsOfEach (KeepsOne basis version fuel above line) line_rules
  end_keeps line in_place no_record no_plan = (in_place, ((λ made is. absurd (cc)), ((λ told tells. absurd (cc)), ((λ told tells. absurd (cc)), ((λ told tells. absurd (cc)), ((λ told tells. absurd (cc)), tt))))))

  -- ---- plan lines

  module _ (line : Line) (told : PlanLine) (in_place : IsInPlace version above line) (tells : plan_line_in line ≡ Some told) where
    of_told : (Keeps : List Line → PlanLine → Type 0) → Keeps above told → OfPlan Keeps above line
    of_told Keeps keeps other is = subst (Keeps above) (same_Some told other (sym tells ∙ is)) keeps

    no_record : (made : NamedRecord) → made_in line ≡ Some made → IsNewRecord basis.services fuel above made
    no_record made is = (let none = makes_none line told tells in absurd (cc))

    pub breaks_V3 : ¬ (HasParent basis.services basis.test (choices_of basis) fuel above told) → IsFirstNot (KeepsOne basis version fuel above line) line_rules V3
    breaks_V3 none = record { before = V1 ∷ V2 ∷ []; after = V4 ∷ V7 ∷ V5 ∷ []; cut = refl; hold = (in_place, (no_record, tt)); fails = λ has. none (has told tells) }

    module _ (parent : HasParent basis.services basis.test (choices_of basis) fuel above told) where
      child : OfPlan (HasParent basis.services basis.test (choices_of basis) fuel) above line
      child = of_told (HasParent basis.services basis.test (choices_of basis) fuel) parent

      pub breaks_V4 : ¬ (IsSpelled basis.services basis.test fuel above told) → IsFirstNot (KeepsOne basis version fuel above line) line_rules V4
      breaks_V4 none =
          record { before = V1 ∷ V2 ∷ V3 ∷ []; after = V7 ∷ V5 ∷ []; cut = refl; hold = (in_place, (no_record, (child, tt))); fails = λ spells. none (spells told tells) }

      module _ (tree : IsSpelled basis.services basis.test fuel above told) where
        spelled : OfPlan (IsSpelled basis.services basis.test fuel) above line
        spelled = of_told (IsSpelled basis.services basis.test fuel) tree

        pub breaks_V7 : ¬ (UsesEarlier above told) → IsFirstNot (KeepsOne basis version fuel above line) line_rules V7
        breaks_V7 later = record {
          before = V1 ∷ V2 ∷ V3 ∷ V4 ∷ [];
          after = V5 ∷ [];
          cut = refl;
          hold = (in_place, (no_record, (child, (spelled, tt))));
          fails = λ earlier. later (earlier told tells);
        }

        module _ (uses : UsesEarlier above told) where
          earlier : OfPlan UsesEarlier above line
          earlier = of_told UsesEarlier uses

          pub breaks_V5 : ¬ (told.outcome ≡ tree.run.outcome) → IsFirstNot (KeepsOne basis version fuel above line) line_rules V5
          breaks_V5 other = record {
            before = V1 ∷ V2 ∷ V3 ∷ V4 ∷ V7 ∷ [];
            after = [];
            cut = refl;
            hold = (in_place, (no_record, (child, (spelled, (earlier, tt)))));
            fails = λ ends. other (ends told tells tree);
          }

          pub plan_keeps : EndsAsItsTree basis.services basis.test fuel above told → HoldsOfEach (KeepsOne basis version fuel above line) line_rules
          plan_keeps ends = (in_place, (no_record, (child, (spelled, (earlier, (of_told (EndsAsItsTree basis.services basis.test fuel) ends, tt))))))
