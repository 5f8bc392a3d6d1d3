-- What lines below a header tell of places and totals.
use Rattle.std.specs.Prelude.{ℕ, ◌+◌, ◌-◌, Bool, true, false, not, ◌&&◌, ◌||◌, ◌==◌, nat_lt, is_none, List, [], ◌∷◌, length}
use Rattle.fb_campaign.specs.Reports.{has_passed}
use Rattle.fb_report.specs.declared.line.Cause.{Cause}
use Rattle.fb_report.specs.declared.line.Cause.TheVariants.{Completed, Fuel, Budget}
use Rattle.fb_report.specs.declared.line.Line.{Line}
use Rattle.fb_report.specs.declared.line.Line.TheVariants.{Header, Inv, Plan, End}
use Rattle.fb_functest.specs.PlanLines.{plan_lines}
use Rattle.fb_valid.specs.Lines.{owners_told, is_end, run_lines, failed_lines}

pub record Tallied : Type 0 where
  -- the header's
  pub version : ℕ
  -- counts of plan lines, of those that were run and that failed, and of inv lines
  pub plans : ℕ
  pub run : ℕ
  pub failed : ℕ
  pub records : ℕ
  -- whether one is an end line
  pub ended : Bool

abbrev pub has_end : List Line → Bool
has_end [] = false
has_end (line ∷ lines) = is_end line || has_end lines

abbrev pub tally_of : ℕ → List Line → Tallied
tally_of version lines = record {
  version = version;
  plans = length (plan_lines lines);
  run = length (run_lines lines);
  failed = length (failed_lines lines);
  records = length (owners_told lines);
  ended = has_end lines;
}

-- ---- the next line

abbrev pub is_completed : Cause → Bool
is_completed Completed = true
is_completed Fuel = false
is_completed Budget = false

-- these are the totals, of one plan line at least
abbrev pub are_totals : Tallied → ℕ → ℕ → ℕ → ℕ → ℕ → Bool
are_totals tally plans run pruned failed invs =
    nat_lt 0 tally.plans && plans == tally.plans && run == tally.run && pruned == tally.plans - tally.run && failed == tally.failed && invs == tally.records

-- its number and version, or its totals
unfoldable pub is_numbered : Tallied → Line → Bool
is_numbered tally (Header version fuel reduction) = false
is_numbered tally (Inv id owner made) = id == tally.records
is_numbered tally (Plan version id parent fault run uses outcome) = version == tally.version && id == tally.plans
is_numbered tally (End cause plans run pruned failed invs stopped) = is_completed cause && is_none stopped && are_totals tally plans run pruned failed invs

abbrev pub one_if : Bool → ℕ
one_if true = 1
one_if false = 0

-- and this line behind them
unfoldable pub with_line : Tallied → Line → Tallied
with_line tally (Header version fuel reduction) = tally
with_line tally (Inv id owner made) = record tally { records = tally.records + 1 }
with_line tally (Plan version id parent fault run uses outcome) = record tally {
  plans = tally.plans + 1;
  run = tally.run + one_if run;
  failed = tally.failed + one_if (not (has_passed outcome));
}
with_line tally (End cause plans run pruned failed invs stopped) = record tally { ended = true }
