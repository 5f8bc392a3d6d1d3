-- The lines of a campaign's report.
use Rattle.std.specs.Prelude.{ℕ, Option, Some, None, option_map, List, [], ◌∷◌, ◌++◌, length}
use Rattle.std.specs.List.{last_or}
use Rattle.fb_base.specs.declared.reply.Reply.{Reply}
use Rattle.fb_index.specs.Entry.{Occurrence}
use Rattle.fb_index.specs.declared.fault.Fault.{Fault}
use Rattle.fb_syntax.specs.Trees.{ServicesTree}
use Rattle.fb_campaign.specs.Campaign.{Settings}
use Rattle.fb_campaign.specs.Reports.{Recorded, Planned, Cause, Completed, FuelSpent, BudgetSpent, Totals, Line as CampaignLine, RecordLine, PlanLine, EndLine, record_lines, plan_lines}
use Rattle.fb_report.specs.declared.line.Cause.{Cause as CauseTold}
use Rattle.fb_report.specs.declared.line.Cause.TheVariants as cause
use Rattle.fb_report.specs.declared.line.Line.{Line}
use Rattle.fb_report.specs.declared.line.Line.TheVariants.{Header, Inv, Plan, End}
use Rattle.fb_report.specs.Names.{each_of, named_record}

-- ---- each line by itself

abbrev pub last_fault : List Fault → Option (List Occurrence × Reply)
last_fault plan = option_map (λ fault. (fault.index, fault.reply)) (last_or None plan)

abbrev pub cause_told : Cause → CauseTold
cause_told Completed = cause.Completed
cause_told (FuelSpent plan) = cause.Fuel
cause_told (BudgetSpent plan) = cause.Budget

abbrev pub stopped_at : Cause → Option (List Fault)
stopped_at Completed = None
stopped_at (FuelSpent plan) = Some plan
stopped_at (BudgetSpent plan) = Some plan

-- none where the services lack a method of the record
abbrev pub inv_line : ServicesTree → ℕ → Recorded → Option Line
inv_line services number recorded = option_map (Inv number recorded.owner) (named_record services recorded.item)

abbrev pub plan_line : ℕ → ℕ → Planned → Line
plan_line version number planned =
    Plan version number planned.parent (last_fault planned.plan) planned.is_run planned.uses planned.outcome

abbrev pub end_line : Cause → Totals → Line
end_line why totals = End (cause_told why) totals.plans totals.run totals.pruned totals.failed totals.records (stopped_at why)

-- ---- all lines

-- a line, whose number is that of the lines of its sort above it
abbrev pub line_of : ServicesTree → ℕ → List CampaignLine → CampaignLine → Option Line
line_of services version above (RecordLine recorded) = inv_line services (length (record_lines above)) recorded
line_of services version above (PlanLine planned) = Some (plan_line version (length (plan_lines above)) planned)
line_of services version above (EndLine why totals) = Some (end_line why totals)

-- each line with those above it, where these stand above the first
abbrev pub with_above : List CampaignLine → List CampaignLine → List (List CampaignLine × CampaignLine)
with_above above [] = []
with_above above (line ∷ lines) = (above, line) ∷ with_above (above ++ line ∷ []) lines

abbrev pub lines_below : ServicesTree → ℕ → List CampaignLine → List CampaignLine → Option (List Line)
lines_below services version above lines = each_of (λ placed. line_of services version placed.0 placed.1) (with_above above lines)

-- the header, and the line of each of the campaign's, none where the services lack a method of a record
unfoldable pub lines_of_campaign : ServicesTree → ℕ → Settings → List CampaignLine → Option (List Line)
lines_of_campaign services version settings report =
    option_map (λ lines. Header version settings.fuel settings.reduction ∷ lines) (lines_below services version [] report)
