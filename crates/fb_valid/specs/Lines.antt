-- What the lines below the header of a report tell.
use Rattle.std.specs.Prelude.{ℕ, Bool, true, false, not, Option, Some, None, option_and_then, List, filter, filter_map, length}
use Rattle.fb_syntax.specs.Trees.{ServicesTree}
use Rattle.fb_tree.specs.declared.recorded.Record.{Record}
use Rattle.fb_campaign.specs.Reports.{has_passed}
use Rattle.fb_report.specs.declared.line.Cause.TheVariants as cause
use Rattle.fb_report.specs.declared.line.Line.{Line}
use Rattle.fb_report.specs.declared.line.Line.TheVariants.{Header, Inv, Plan, End}
use Rattle.fb_report.specs.declared.named.NamedRecord.{NamedRecord}
use Rattle.fb_report.specs.Names.{record_named}
use Rattle.fb_functest.specs.PlanLines.{PlanLine, plan_lines}

-- ---- inv lines

-- the number of the plan line that owns the record of an inv line
abbrev pub owner_in : Line → Option ℕ
owner_in (Header version fuel reduction) = None
owner_in (Inv id owner made) = Some owner
owner_in (Plan version id parent fault run uses outcome) = None
owner_in (End cause plans run pruned failed invs stopped) = None

-- of each inv line; its own number is its place among these
abbrev pub owners_told : List Line → List ℕ
owners_told lines = filter_map owner_in lines

abbrev pub made_in : Line → Option NamedRecord
made_in (Header version fuel reduction) = None
made_in (Inv id owner made) = Some made
made_in (Plan version id parent fault run uses outcome) = None
made_in (End cause plans run pruned failed invs stopped) = None

-- the record of an inv line by the numbers of its methods, none where the services lack one
abbrev pub record_in : ServicesTree → Line → Option Record
record_in services line = option_and_then (record_named services) (made_in line)

-- of each inv line, but for those that break the rule on records in that they have none
abbrev pub records_told : ServicesTree → List Line → List Record
records_told services lines = filter_map (record_in services) lines

-- ---- end lines

abbrev pub is_end : Line → Bool
is_end (Header version fuel reduction) = false
is_end (Inv id owner made) = false
is_end (Plan version id parent fault run uses outcome) = false
is_end (End cause plans run pruned failed invs stopped) = true

abbrev pub run_lines : List Line → List PlanLine
run_lines lines = filter (λ line. line.run) (plan_lines lines)

abbrev pub pruned_lines : List Line → List PlanLine
pruned_lines lines = filter (λ line. not line.run) (plan_lines lines)

abbrev pub failed_lines : List Line → List PlanLine
failed_lines lines = filter (λ line. not (has_passed line.outcome)) (plan_lines lines)

-- the end line of a completed report, with the totals of the lines above it
abbrev pub end_below : List Line → Line
end_below above =
    End cause.Completed (length (plan_lines above)) (length (run_lines above)) (length (pruned_lines above)) (length (failed_lines above))
    (length (owners_told above)) None
