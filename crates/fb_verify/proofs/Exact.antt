-- Any bytes have one verdict at most.
use Rattle.std.proofs.Common.{◌≡◌, ℕ, Bool, List, ◌∷◌, refl, sym, ap, ◌∙◌}
use Rattle.fb_syntax.specs.Trees.{ServicesTree, TestTree}
use Rattle.fb_campaign.specs.Runs.{Choices}
use Rattle.fb_report.specs.declared.line.Line.{Line}
use Rattle.fb_report.specs.declared.line.Line.TheVariants.{Header}
use Rattle.fb_functest.specs.Reading.{BytesAreReadOneWay}
use Rattle.fb_valid.specs.Laws.{OneBreaksFirst, ValidBreaksNone}
use Rattle.fb_valid.specs.Valid.{IsValid}
use Rattle.fb_valid.specs.Verdict as told
use Rattle.fb_audit.specs.declared.verdict.Rule.{Rule}
use Rattle.fb_audit.specs.declared.verdict.Rule.TheVariants as code
use Rattle.fb_audit.specs.Rules.{rule_told}
use Rattle.fb_audit.specs.Concluded.{totals_of}
use Rattle.fb_verify.specs.declared.verdict.Verdict.{Verdict}
use Rattle.fb_verify.specs.declared.verdict.Verdict.TheVariants.{Yes, No}
use Rattle.fb_verify.specs.Verdicts.{IsVerdict, VerdictsAreExact}

-- ---- a rule is told in its own way

abbrev rule_meant : told.Rule → Rule
rule_meant told.CutLine = code.CutLine
rule_meant told.NotJson = code.NotJson
rule_meant told.BadShape = code.BadShape
rule_meant told.BadNumber = code.BadNumber
rule_meant told.V1 = code.V1
rule_meant told.V2 = code.V2
rule_meant told.V3 = code.V3
rule_meant told.V4 = code.V4
rule_meant told.V5 = code.V5
rule_meant (told.V6 index given) = code.V6 index given
rule_meant told.V7 = code.V7
rule_meant told.V8 = code.V8

meant-told : (rule : Rule) → rule_meant (rule_told rule) ≡ rule
meant-told code.CutLine = refl
meant-told code.NotJson = refl
meant-told code.BadShape = refl
meant-told code.BadNumber = refl
meant-told code.V1 = refl
meant-told code.V2 = refl
meant-told code.V3 = refl
meant-told code.V4 = refl
meant-told code.V5 = refl
meant-told (code.V6 index given) = refl
meant-told code.V7 = refl
meant-told code.V8 = refl

one-rule : (rule other : Rule) → rule_told rule ≡ rule_told other → rule ≡ other
one-rule rule other same = sym (meant-told rule) ∙ ap rule_meant same ∙ meant-told other

-- ---- valid reports

one-tail : (version other fuel more : ℕ) (reduction another : Bool) (lines others : List Line)
    → Header version fuel reduction ∷ lines ≡ Header other more another ∷ others → lines ≡ others
one-tail version other fuel more reduction another lines others same = cc

one-lines : BytesAreReadOneWay → (services : ServicesTree) (test : TestTree) (choices : Choices) (bytes : List ℕ)
    (one other : IsValid services test choices bytes) → one.lines ≡ other.lines
one-lines one_way services test choices bytes one other =
    one-tail one.version other.version one.fuel other.fuel one.reduction other.reduction one.lines other.lines
    (one_way bytes (Header one.version one.fuel one.reduction ∷ one.lines) (Header other.version other.fuel other.reduction ∷ other.lines) one.read other.read)

pub exact : BytesAreReadOneWay → OneBreaksFirst → ValidBreaksNone → VerdictsAreExact
exact one_way once never services test choices bytes (Yes totals) (Yes others) is also =
    ap Yes (is.1 ∙ ap totals_of (one-lines one_way services test choices bytes is.0 also.0) ∙ sym also.1)
exact one_way once never services test choices bytes (Yes totals) (No line rule) is also =
    absurd (never services test choices bytes line (rule_told rule) is.0 also)
exact one_way once never services test choices bytes (No line rule) (Yes totals) is also =
    absurd (never services test choices bytes line (rule_told rule) also.0 is)
exact one_way once never services test choices bytes (No line rule) (No other another) is also =
    let same = once services test choices bytes line other (rule_told rule) (rule_told another) is also in
    let rules = one-rule rule another same.1 in
    ap (λ n. No n rule) same.0 ∙ ap (No other) rules
