use Rattle.std.proofs.Common.{◌≡◌, [], subst}
use Rattle.std.proofs.lemmas.List.{append-nil}
use Rattle.fb_valid.specs.Verdict.{BreaksFirst}
use Rattle.fb_audit.specs.Rules.{rule_told}
use Rattle.fb_verify.specs.Standing.{IsStateOf}
use Rattle.fb_verify.proofs.checker.Checker.finish.Goals as goal

pub returns-in-Broken-clause-verdict : goal.returns-in-Broken-clause-verdict
returns-in-Broken-clause-verdict c = λ services test choices bytes stands.
    subst (λ b. BreaksFirst services test choices b c.in-Broken.field-0.line (rule_told c.in-Broken.field-0.rule)) (append-nil bytes)
    (subst (IsStateOf services test choices bytes) c.in-Broken.is stands [])
