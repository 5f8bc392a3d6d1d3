-- What the plan lines of a campaign come to.
use Rattle.std.specs.Prelude.{ℕ, ◌+◌, ◌-◌, Bool, not, Option, Some, None, List, length, position, if◌then◌else◌}
use Rattle.std.specs.Option.{option_or}
use Rattle.fb_campaign.specs.Reports.{Line as CampaignLine, plan_lines, run_lines, has_passed, totals_of}
use Rattle.fb_report.specs.declared.totals.Totals.{Totals}

pub record Tallied : Type 0 where
  pub plans : ℕ
  pub run : ℕ
  -- those whose plan's test hasn't passed, and the number of the first of them
  pub failed : ℕ
  pub first_failed : Option ℕ

-- before the first line
abbrev pub no_plans : Tallied
no_plans = record { plans = 0; run = 0; failed = 0; first_failed = None }

-- with the line of a plan that was run or pruned, and whose test has passed or not
unfoldable pub with_line : Tallied → Bool → Bool → Tallied
with_line tallied is_run passed = record {
  plans = tallied.plans + 1;
  run = tallied.run + (if is_run then 1 else 0);
  failed = tallied.failed + (if passed then 0 else 1);
  first_failed = option_or tallied.first_failed (if passed then None else Some tallied.plans);
}

abbrev pub tallied_of : List CampaignLine → Tallied
tallied_of lines = record {
  plans = length (plan_lines lines);
  run = length (run_lines lines);
  failed = (totals_of lines).failed;
  first_failed = position (λ line. not (has_passed line.outcome)) (plan_lines lines);
}

-- the totals, with so many records
abbrev pub totals_by : Tallied → ℕ → Totals
totals_by tallied invs = record {
  plans = tallied.plans;
  run = tallied.run;
  pruned = tallied.plans - tallied.run;
  failed = tallied.failed;
  invs = invs;
  first_failed = tallied.first_failed;
}
