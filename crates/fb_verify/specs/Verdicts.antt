-- What is found of the bytes of a report.
use Rattle.std.specs.Prelude.{◌≡◌, ℕ, List}
use Rattle.fb_syntax.specs.Trees.{ServicesTree, TestTree}
use Rattle.fb_campaign.specs.Runs.{Choices}
use Rattle.fb_valid.specs.Valid.{IsValid}
use Rattle.fb_valid.specs.Verdict.{BreaksFirst}
use Rattle.fb_audit.specs.Rules.{rule_told}
use Rattle.fb_audit.specs.Concluded.{totals_of}
use Rattle.fb_verify.specs.declared.verdict.Verdict.{Verdict}
use Rattle.fb_verify.specs.declared.verdict.Verdict.TheVariants.{Yes, No}

-- they are a valid report with these totals, or this line is the first that breaks a rule, and this rule the first that it breaks
abbrev pub IsVerdict : ServicesTree → TestTree → Choices → List ℕ → Verdict → Type 0
IsVerdict services test choices bytes (Yes totals) = (valid : IsValid services test choices bytes) × (totals ≡ totals_of valid.lines)
IsVerdict services test choices bytes (No line rule) = BreaksFirst services test choices bytes line (rule_told rule)

-- any bytes have one verdict at most
abbrev pub VerdictsAreExact : Type 0
VerdictsAreExact =
    (services : ServicesTree) (test : TestTree) (choices : Choices) (bytes : List ℕ) (one other : Verdict) →
    IsVerdict services test choices bytes one → IsVerdict services test choices bytes other → one ≡ other
