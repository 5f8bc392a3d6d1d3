-- Valid reports are true and have few runs; completed campaigns' reports are valid.
use Rattle.std.proofs.Common.{◌≡◌, ◌↔◌, ℕ, ◌+◌, ◌≤◌, Bool, true, Option, Some, None, List, [], ◌∷◌, ◌++◌, filter, length, refl, sym, ap, ◌∙◌, subst, arith}
use Rattle.std.specs.Prelude.{option_map, IsNone}
use Rattle.std.proofs.lemmas.List.{length-map}
use Rattle.std.proofs.lemmas.Option.{same_Some}
use Rattle.fb_base.specs.declared.method.MethodName.{MethodName}
use Rattle.fb_syntax.specs.Trees.{ServicesTree, TestTree}
use Rattle.fb_check.specs.Declarations.{declarations_of, number_in}
use Rattle.fb_check.specs.FirstRefusal.{first_refusal}
use Rattle.fb_check.specs.Programs.{signature_at}
use Rattle.fb_tree.specs.declared.recorded.Record.{Record}
use Rattle.fb_campaign.specs.Campaign.{Settings, campaign, IsCompleted}
use Rattle.fb_campaign.specs.Plans.{plans, HaveRecordsOfMet}
use Rattle.fb_campaign.specs.Reports.{Line as CampaignLine, plan_lines as planned_in, run_lines as runs_in}
use Rattle.fb_campaign.specs.Runs.{Runs, Choices, Gives, AreLawful, AreChoices}
use Rattle.fb_campaign.specs.Truth as abstract
use Rattle.fb_campaign.specs.Valid as valid
use Rattle.fb_meaning.specs.Kinds.{RecordsOfRunsAreTrue}
use Rattle.fb_meaning.specs.Spelling.{SpelledIsRun, OneIsSpelled, RunsAreSpelled}
use Rattle.fb_report.specs.declared.line.Line.{Line}
use Rattle.fb_report.specs.declared.line.Line.TheVariants.{Header}
use Rattle.fb_functest.specs.PlanLines.{PlanLine}
use Rattle.fb_functest.specs.Reading.{IsReadAs, bytes_of, WrittenLinesAreRead}
use Rattle.fb_functest.specs.ReportLaws.{campaign_of}
use Rattle.fb_functest.specs.ReportLines.{lines_below, lines_of_campaign}
use Rattle.fb_functest.specs.Runs.{runs_of, gives_of}
use Rattle.fb_functest.specs.Told.{told, PlansAreTold, TruthIsTold}
use Rattle.fb_valid.specs.Lines.{run_lines, end_below}
use Rattle.fb_valid.specs.Valid.{IsValid}
use Rattle.fb_valid.specs.Laws.{ValidReportsAreTrue, CompletedReportsAreValid, ValidRunsAreFew, ValidReportsTellTotals}
use Rattle.fb_valid.proofs.AsCampaign.{as_campaign}
use Rattle.fb_valid.proofs.CampaignValid.{campaign_valid, plan_lines_told}
use Rattle.fb_valid.proofs.FromCampaign.{lines_tell}
use Rattle.fb_valid.proofs.LinesValid as rules
use Rattle.fb_valid.proofs.Lists.{filter-map}
use Rattle.fb_valid.proofs.Totals.{numbered_end, end_of_all}

module _ (spelled : SpelledIsRun) (one : OneIsSpelled) (lawful : (services : ServicesTree) (test : TestTree) → AreLawful (gives_of services) (runs_of services test)) where
  pub valid_reports_are_true : ((gives : Gives) (runs : Runs) (choices : Choices) → AreLawful gives runs → AreChoices gives choices →
      (fuel : ℕ) (reduction : Bool) (lines : List CampaignLine) → valid.IsValid runs choices fuel reduction lines → abstract.IsTrueReport runs choices fuel lines)
      → TruthIsTold → ValidReportsAreTrue
  valid_reports_are_true true_report truth services test choices are_choices bytes is =
      let told_by = as_campaign services test choices bytes is in
      let so = campaign_valid spelled one services test choices bytes is told_by.report told_by.tells in
      truth services test choices bytes is.version is.fuel is.reduction is.lines told_by.report is.read so.parents
      (plan_lines_told spelled one services test choices bytes is told_by.report told_by.tells)
      (true_report (gives_of services) (runs_of services test) choices (lawful services test) are_choices is.fuel is.reduction told_by.report so)

  pub valid_runs_are_few : ((gives : Gives) (runs : Runs) (choices : Choices) → AreLawful gives runs → AreChoices gives choices →
      (fuel : ℕ) (lines : List CampaignLine) → valid.IsValid runs choices fuel true lines →
      (known : List Record) → HaveRecordsOfMet runs choices fuel known → length (runs_in lines) ≤ 1 + length known)
      → ValidRunsAreFew
  valid_runs_are_few few services test choices are_choices bytes is on known all =
      let told_by = as_campaign services test choices bytes is in
      let so = campaign_valid spelled one services test choices bytes is told_by.report told_by.tells in
      let most = few (gives_of services) (runs_of services test) choices (lawful services test) are_choices is.fuel told_by.report
      (subst (λ reduction. valid.IsValid (runs_of services test) choices is.fuel reduction told_by.report) on so) known all in
      let same : length (run_lines is.lines) ≡ length (runs_in told_by.report) =
      ap (λ lines. length (filter (λ (line : PlanLine). line.run) lines)) (plan_lines_told spelled one services test choices bytes is told_by.report told_by.tells)
      ∙ ap length (filter-map told (λ (line : PlanLine). line.run) (planned_in told_by.report)) ∙ length-map (runs_in told_by.report) told in
      omega (arith, most, same)

  pub completed_reports_are_valid : ((gives : Gives) (runs : Runs) (choices : Choices) → AreLawful gives runs → AreChoices gives choices →
      (settings : Settings) → IsCompleted (campaign settings runs (plans runs choices settings.fuel)) →
      valid.IsValid runs choices settings.fuel settings.reduction (campaign settings runs (plans runs choices settings.fuel)))
      → RecordsOfRunsAreTrue → RunsAreSpelled → PlansAreTold → WrittenLinesAreRead
      → ((services : ServicesTree) → IsNone (first_refusal services) → (method : ℕ) (name : MethodName) →
      (option_map (λ s. s.name) (signature_at services method) ≡ Some name) ↔ (number_in (declarations_of services) name.service name.method ≡ Some method))
      → CompletedReportsAreValid
  unfolding lines_of_campaign
  completed_reports_are_valid complete truth runs_spelled plans_told read names services test accepted accepted_test choices are_choices version settings lines completed is each =
      by (lines_below services version [] (campaign_of services test choices settings)) refl is
    where
      so : valid.IsValid (runs_of services test) choices settings.fuel settings.reduction (campaign_of services test choices settings)
      so = complete (gives_of services) (runs_of services test) choices (lawful services test) are_choices settings completed

      by : (below : Option (List Line)) → lines_below services version [] (campaign_of services test choices settings) ≡ below
          → option_map (λ below. Header version settings.fuel settings.reduction ∷ below) below ≡ Some lines → IsValid services test choices (bytes_of lines)
      by None found same = absurd (cc)
      by (Some out) found same =
          let whole = same_Some (Header version settings.fuel settings.reduction ∷ out) lines same in
          let report = campaign_of services test choices settings in
          let tells = lines_tell services test choices version settings.fuel settings.reduction report runs_spelled plans_told (names services accepted) so out found in
          record {
            version = version;
            fuel = settings.fuel;
            reduction = settings.reduction;
            lines = out;
            read = subst (λ all. IsReadAs (bytes_of lines) all) (sym whole) (read lines each);
            structure = record {
              in_place = rules.all_in_place spelled one truth services test accepted accepted_test choices version settings.fuel settings.reduction report so out tells;
              ended = rules.all_ended spelled one truth services test accepted accepted_test choices version settings.fuel settings.reduction report so out tells;
            };
            records = rules.all_new spelled one truth services test accepted accepted_test choices version settings.fuel settings.reduction report so out tells;
            parents = rules.all_parents spelled one truth services test accepted accepted_test choices version settings.fuel settings.reduction report so out tells;
            trees = rules.all_trees spelled one truth services test accepted accepted_test choices version settings.fuel settings.reduction report so out tells;
            outcomes = rules.all_outcomes spelled one truth services test accepted accepted_test choices version settings.fuel settings.reduction report so out tells;
            complete = rules.all_complete spelled one truth services test accepted accepted_test choices version settings.fuel settings.reduction report so out tells;
            owners = rules.all_owned spelled one truth services test accepted accepted_test choices version settings.fuel settings.reduction report so out tells;
            reduced = rules.all_reduced spelled one truth services test accepted accepted_test choices version settings.fuel settings.reduction report so out tells;
          }

pub valid_reports_tell_totals : ValidReportsTellTotals
valid_reports_tell_totals services test choices bytes valid =
    let ended = valid.structure.ended in
    let last = numbered_end services test valid.version valid.fuel ended.body ended.last ended.ends (valid.structure.in_place ended.body ended.last [] ended.cut).numbered in
    (ended.body, ended.cut ∙ ap (λ line. ended.body ++ line ∷ []) (last.0 ∙ sym (ap end_below ended.cut ∙ end_of_all ended.body ended.last ended.ends)))
