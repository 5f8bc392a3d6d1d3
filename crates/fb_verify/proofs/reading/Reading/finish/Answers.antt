use Rattle.std.proofs.Common.{◌≡◌, ◌∙◌, sym, subst}
use Rattle.fb_audit.specs.Concluded.{Concludes}
use Rattle.fb_verify.proofs.Ends.{empty-items, valid, broken}
use Rattle.fb_verify.proofs.reading.Reading.finish.Goals as goal

pub returns-in-Valid : goal.returns-in-Valid
returns-in-Valid c = λ services test choices bytes lines has.
    valid services test choices bytes lines c.args.self.now has c.concluded_lines_are_valid.ensures
    (sym c.as_slice.ensures.value ∙ empty-items c.as_slice.result.now c.if-not-is_empty.ensures) c.in-Valid.totals
    (subst (Concludes services test choices lines) c.in-Valid.is (c.in_ok-totals.ensures services test choices lines has.taken))

pub returns-in-Broken : goal.returns-in-Broken
returns-in-Broken c = λ services test choices bytes lines has.
    broken services test choices bytes lines c.args.self.now has (sym c.as_slice.ensures.value ∙ empty-items c.as_slice.result.now c.if-not-is_empty.ensures) c.in-Broken.field-0
    (subst (Concludes services test choices lines) c.in-Broken.is (c.in_ok-totals.ensures services test choices lines has.taken))
