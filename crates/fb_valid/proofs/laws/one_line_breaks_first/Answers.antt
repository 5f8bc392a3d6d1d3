use Rattle.fb_valid.proofs.OneBreak.{one_breaks_first_law, valid_breaks_none_law}
use Rattle.fb_valid.proofs.Unbroken.{unbroken_is_valid}
use Rattle.fb_valid.proofs.laws.one_line_breaks_first.Goals as goal

pub returns : goal.returns
returns c = record {
  one = one_breaks_first_law c.answers_are_unique.ensures c.spelled_is_run.ensures.one;
  valid = valid_breaks_none_law c.answers_are_unique.ensures c.spelled_is_run.ensures.one;
  unbroken = unbroken_is_valid c.spelled_is_run.ensures.one;
}
