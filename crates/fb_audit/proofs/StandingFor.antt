-- An audit stands for lines by what it has taken.
use Rattle.std.proofs.Common.{◌≡◌, Option, Some, None, List, [], ◌∷◌, ◌++◌, sym, ap, ◌∙◌, subst}
use Rattle.fb_syntax.specs.Trees.{ServicesTree, TestTree}
use Rattle.fb_campaign.specs.Runs.{Choices}
use Rattle.fb_report.specs.declared.line.Line.{Line}
use Rattle.fb_valid.specs.Valid.{OfEachLine}
use Rattle.fb_valid.specs.Verdict.{Keeps, KeepsAll, IsFirstNot, line_rules}
use Rattle.fb_audit.specs.declared.taken.Taken.{Taken}
use Rattle.fb_audit.specs.declared.verdict.Conclusion.{Conclusion}
use Rattle.fb_audit.specs.declared.verdict.Rule.{Rule}
use Rattle.fb_audit.specs.Kept.{Basis, choices_of}
use Rattle.fb_audit.specs.Rules.{rule_told}
use Rattle.fb_audit.specs.Taken.{Audited, IsNext, IsTakenOf}
use Rattle.fb_audit.specs.Concluded.{Concludes}
use Rattle.fb_audit.specs.Standing.{StandsFor, Takes}

module _ (services : ServicesTree) (test : TestTree) (choices : Choices) (basis : Basis) (services_are : basis.services ≡ services) (test_is : basis.test ≡ test) (choices_are : choices_of basis ≡ choices) where
  -- what holds by an audit's basis holds by these
  by_these : (Holds : ServicesTree → TestTree → Choices → Type 0) → Holds basis.services basis.test (choices_of basis) → Holds services test choices
  by_these Holds holds =
      subst (Holds services test) choices_are (subst (λ t. Holds services t (choices_of basis)) test_is (subst (λ s. Holds s basis.test (choices_of basis)) services_are holds))

  pub stands : (lines : List Line) (taken : Taken) → IsTakenOf basis lines taken → StandsFor services test choices lines (record { basis = basis; taken = taken })
  stands lines taken is = record {
    services_are = services_are;
    test_is = test_is;
    choices_are = choices_are;
    taken = is;
    kept = by_these (λ s t c. OfEachLine (KeepsAll s t c) lines) is.keep;
  }

  pub takes : (lines : List Line) (line : Line) (taken : Taken) (o : Option Rule) → IsNext basis lines line taken o → Takes services test choices lines line o (record { basis = basis; taken = taken })
  takes lines line taken None next = (by_these (λ s t c. KeepsAll s t c lines line) next.0, stands (lines ++ line ∷ []) taken next.1)
  takes lines line taken (Some rule) next = by_these (λ s t c. IsFirstNot (Keeps s t c lines line) line_rules (rule_told rule)) next

  pub concludes_by : (lines : List Line) (found : Conclusion) → Concludes basis.services basis.test (choices_of basis) lines found → Concludes services test choices lines found
  concludes_by lines found concluded = by_these (λ s t c. Concludes s t c lines found) concluded

pub takes_on : (services : ServicesTree) (test : TestTree) (choices : Choices) (old new : Audited) → new.basis ≡ old.basis → (lines : List Line) (line : Line) (o : Option Rule)
    → StandsFor services test choices lines old → IsNext old.basis lines line new.taken o → Takes services test choices lines line o new
takes_on services test choices old new same lines line o stands next =
    takes services test choices new.basis (ap (λ (b : Basis). b.services) same ∙ stands.services_are) (ap (λ (b : Basis). b.test) same ∙ stands.test_is)
    (ap choices_of same ∙ stands.choices_are) lines line new.taken o (subst (λ (b : Basis). IsNext b lines line new.taken o) (sym same) next)
