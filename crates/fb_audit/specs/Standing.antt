-- Which lines an audit stands for, and what it answers of a further line.
use Rattle.std.specs.Prelude.{◌≡◌, Option, Some, None, List, [], ◌∷◌, ◌++◌}
use Rattle.fb_syntax.specs.Trees.{ServicesTree, TestTree}
use Rattle.fb_campaign.specs.Runs.{Choices}
use Rattle.fb_report.specs.declared.line.Line.{Line}
use Rattle.fb_valid.specs.Valid.{OfEachLine}
use Rattle.fb_valid.specs.Verdict.{Keeps, KeepsAll, IsFirstNot, line_rules}
use Rattle.fb_audit.specs.declared.verdict.Rule.{Rule}
use Rattle.fb_audit.specs.Kept.{choices_of}
use Rattle.fb_audit.specs.Rules.{rule_told}
use Rattle.fb_audit.specs.Taken.{Audited, IsTakenOf}

module _ (services : ServicesTree) (test : TestTree) (choices : Choices) where
  -- it judges by these, and has taken these lines, the header first, each of which keeps the rules on it
  pub record StandsFor (lines : List Line) (audit : Audited) : Type 0 where
    pub services_are : audit.basis.services ≡ services
    pub test_is : audit.basis.test ≡ test
    pub choices_are : choices_of audit.basis ≡ choices
    pub taken : IsTakenOf audit.basis lines audit.taken
    pub kept : OfEachLine (KeepsAll services test choices) lines

  -- a further line keeps the rules on it, and the audit stands for it too; or it breaks this rule first
  abbrev pub Takes : List Line → Line → Option Rule → Audited → Type 0
  Takes lines line None audit = KeepsAll services test choices lines line × StandsFor (lines ++ line ∷ []) audit
  Takes lines line (Some rule) audit = IsFirstNot (Keeps services test choices lines line) line_rules (rule_told rule)
