use Rattle.std.proofs.Common.{◌≡◌, inr, ◌++◌, Some, None, Ok, ap, ◌∙◌, sym, subst, append_assoc}
use Rattle.fb_valid.specs.Verdict.{BreaksFirst}
use Rattle.fb_audit.specs.Rules.{rule_told}
use Rattle.fb_verify.specs.Standing.{IsStateOf}
use Rattle.fb_verify.proofs.Ends.{given, unbroken}
use Rattle.fb_verify.proofs.checker.Checker.feed.Goals as goal

pub returns-in-Broken-clause-told : goal.returns-in-Broken-clause-told
returns-in-Broken-clause-told g c = λ services test choices bytes stands. (
  c.in-Broken.field-0.line,
  rule_told c.in-Broken.field-0.rule,
  λ more. subst (λ b. BreaksFirst services test choices b c.in-Broken.field-0.line (rule_told c.in-Broken.field-0.rule))
      (sym (append_assoc bytes c.args.piece.now more))
      (subst (IsStateOf services test choices bytes) c.in-Broken.is stands (c.args.piece.now ++ more)),
)

pub returns-in-Ok-None-clause-stands : goal.returns-in-Ok-None-clause-stands
returns-in-Ok-None-clause-stands g c = λ services test choices bytes stands.
    let going = subst (IsStateOf services test choices bytes) c.in-Going.is stands in
    given c.take-taken.result None _ (c.in-Ok-None.is ∙ ap Ok c.in-Ok-None.field-0-is) c.take-taken.ensures.found services test choices bytes going.0 going.1

pub returns-in-Ok-None-clause-told : goal.returns-in-Ok-None-clause-told
returns-in-Ok-None-clause-told g c = λ services test choices bytes stands.
    let going = subst (IsStateOf services test choices bytes) c.in-Going.is stands in
    let read =
    given c.take-taken.result None _ (c.in-Ok-None.is ∙ ap Ok c.in-Ok-None.field-0-is) c.take-taken.ensures.found services test choices bytes going.0 going.1 in
    unbroken services test choices (bytes ++ c.args.piece.now) read.0 c.take-taken.new.self read.1

pub returns-in-Ok-None-clause-ticks : goal.returns-in-Ok-None-clause-ticks
returns-in-Ok-None-clause-ticks g c = λ services test choices bytes stands.
    let going = subst (IsStateOf services test choices bytes) c.in-Going.is stands in
    inr (going.0, c.in-Going.reading.tail.items, going.1.read, going.1.free, c.take-taken.ensures.ticks services test choices bytes going.0 going.1)

pub returns-in-Ok-Some-clause-stands : goal.returns-in-Ok-Some-clause-stands
returns-in-Ok-Some-clause-stands g c = λ services test choices bytes stands.
    let going = subst (IsStateOf services test choices bytes) c.in-Going.is stands in
    given c.take-taken.result (Some c.in-Ok-Some.found) _ (c.in-Ok-Some.is ∙ ap Ok c.in-Ok-Some.field-0-is) c.take-taken.ensures.found services test choices bytes going.0 going.1

pub returns-in-Ok-Some-clause-told : goal.returns-in-Ok-Some-clause-told
returns-in-Ok-Some-clause-told g c = λ services test choices bytes stands.
    let going = subst (IsStateOf services test choices bytes) c.in-Going.is stands in (
      c.in-Ok-Some.found.line,
      rule_told c.in-Ok-Some.found.rule,
      given c.take-taken.result (Some c.in-Ok-Some.found) _ (c.in-Ok-Some.is ∙ ap Ok c.in-Ok-Some.field-0-is) c.take-taken.ensures.found services test choices bytes
          going.0 going.1,
    )

pub returns-in-Ok-Some-clause-ticks : goal.returns-in-Ok-Some-clause-ticks
returns-in-Ok-Some-clause-ticks g c = λ services test choices bytes stands.
    let going = subst (IsStateOf services test choices bytes) c.in-Going.is stands in
    inr (going.0, c.in-Going.reading.tail.items, going.1.read, going.1.free, c.take-taken.ensures.ticks services test choices bytes going.0 going.1)

pub returns-in-Err-clause-ticks : goal.returns-in-Err-clause-ticks
returns-in-Err-clause-ticks g c = λ services test choices bytes stands.
    let going = subst (IsStateOf services test choices bytes) c.in-Going.is stands in
    inr (going.0, c.in-Going.reading.tail.items, going.1.read, going.1.free, c.take-taken.ensures.ticks services test choices bytes going.0 going.1)
