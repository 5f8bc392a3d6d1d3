-- Explorations, by how they end, and with the header.
use Rattle.std.proofs.Common.{◌≡◌, inl, ℕ, ◌+◌, ◌≤◌, Option, Some, None, Result, Ok, Err, List, [], ◌∷◌, ◌++◌, length, refl, sym, ap, ◌∙◌, subst, arith}
use Rattle.std.specs.Prelude.{option_map, IsNone}
use Rattle.std.specs.List.{last_or}
use Rattle.std.specs.Result.{IsErrOf}
use Rattle.fb_base.specs.Count.{Rose, NeverFell}
use Rattle.fb_syntax.specs.Trees.{ServicesTree, TestTree}
use Rattle.fb_check.specs.FirstRefusal.{first_refusal, first_refusal_of_test}
use Rattle.fb_campaign.specs.Campaign.{Settings}
use Rattle.fb_campaign.specs.Plans.{plans}
use Rattle.fb_campaign.specs.Reports.{Completed, Line as CampaignLine, EndLine, totals_of}
use Rattle.fb_config.specs.Choices.{choices_for}
use Rattle.fb_config.specs.declared.choices.ChoiceTable.{ChoiceTable}
use Rattle.fb_report.specs.declared.line.Cause.TheVariants as cause
use Rattle.fb_report.specs.declared.line.Line.{Line}
use Rattle.fb_report.specs.declared.line.Line.TheVariants.{Header}
use Rattle.fb_report.specs.declared.totals.Totals.{Totals}
use Rattle.fb_functest.specs.ReportLaws.{CampaignsHaveLines}
use Rattle.fb_functest.specs.ReportLines.{end_line, lines_below, lines_of_campaign}
use Rattle.fb_functest.specs.Runs.{runs_of}
use Rattle.fb_explore.specs.declared.end.ExploreEnd.{ExploreEnd}
use Rattle.fb_explore.specs.declared.end.ExploreEnd.TheVariants as end
use Rattle.fb_explore.specs.declared.error.PutError.{PutError}
use Rattle.fb_explore.specs.declared.error.PutError.TheVariants as stop
use Rattle.fb_explore.specs.declared.explorer.Explorer.{Explorer}
use Rattle.fb_explore.specs.declared.known.Known.{Known}
use Rattle.fb_explore.specs.Below.{report_by, IsExploredBelow, HaveAllHadTurns}
use Rattle.fb_explore.specs.Ends.{end_of, stop_before_end, counted, EndsBy, IsAnswerTo, uses_in}
use Rattle.fb_explore.specs.Explored.{IsExplored, explored}
use Rattle.fb_explore.specs.Puts.{HavePutLines}
use Rattle.fb_explore.specs.Tallies.{totals_by}
use Rattle.fb_explore.specs.Turns.{end_line_by}
use Rattle.fb_explore.proofs.Cutting.{join_lines, last_push, uses_join}
use Rattle.fb_explore.proofs.Puts.{put_then, put_short}
use Rattle.fb_explore.proofs.TallyLines.{counted_is, totals_told}

-- ---- the lines are there

pub below_of : (services : ServicesTree) (version : ℕ) (settings : Settings) (report : List CampaignLine) (lines : List Line)
    → lines_of_campaign services version settings report ≡ Some lines → (below : List Line) × (lines_below services version [] report ≡ Some below)
unfolding lines_of_campaign
below_of services version settings report lines is = by (lines_below services version [] report) refl is
  where
    by : (o : Option (List Line)) → lines_below services version [] report ≡ o
        → option_map (λ below. Header version settings.fuel settings.reduction ∷ below) o ≡ Some lines → (below : List Line) × (lines_below services version [] report ≡ Some below)
    by None told is = absurd (cc)
    by (Some below) told is = (below, told)

module _ (law : CampaignsHaveLines) (services : ServicesTree) (test : TestTree) (accepted : IsNone (first_refusal services)) (accepted_test : IsNone (first_refusal_of_test services test))
    (faults : ChoiceTable) (settings : Settings) where
  pub lines_there : (lines : List Line) × (lines_of_campaign services faults.version settings (explored services test faults settings) ≡ Some lines)
  lines_there = law services test accepted accepted_test faults.version settings (plans (runs_of services test) (choices_for faults) settings.fuel)

  pub below_there : (lines : List Line) × (lines_below services faults.version [] (explored services test faults settings) ≡ Some lines)
  below_there = below_of services faults.version settings (explored services test faults settings) lines_there.0 lines_there.1

-- ---- the end line

module _ (explorer : Explorer) (known : Known) (u v w : Option (List ℕ)) (f g h t n : ℕ) (all : HaveAllHadTurns explorer known u f v g t n) where
  abbrev last : CampaignLine
  last = EndLine Completed (totals_of all.progress.lines)

  abbrev totals : Totals
  totals = totals_by known.tally (length known.store)

  last_is : end_line Completed (totals_of all.progress.lines) ≡ end_line_by cause.Completed totals None
  last_is =
      totals_told all.progress.lines Completed
      ∙ (λ i. end_line_by cause.Completed (totals_by (all.knows.plans i) (length (all.knows.records i))) None)

  all_lines : lines_below explorer.program.now.tree explorer.faults.now.version [] (report_by explorer) ≡ Some (all.lines ++ end_line_by cause.Completed totals None ∷ [])
  all_lines =
      ap (lines_below explorer.program.now.tree explorer.faults.now.version []) all.report
      ∙ join_lines explorer.program.now.tree explorer.faults.now.version [] all.progress.lines (last ∷ []) all.lines (end_line_by cause.Completed totals None ∷ []) all.told
      (ap (λ line. Some (line ∷ [])) last_is)

  uses_are : uses_in (report_by explorer) ≡ uses_in all.progress.lines + 0
  uses_are = ap uses_in all.report ∙ uses_join all.progress.lines (last ∷ [])

  few : n ≤ t + uses_in (report_by explorer)
  few = let same = uses_are in let before = all.ticks in omega (arith, same, before)

  ends : EndsBy (report_by explorer) Completed
  ends = (totals_of all.progress.lines, ap (last_or None) all.report ∙ last_push None all.progress.lines last)

  both : (why : Option PutError) → HavePutLines (end_line_by cause.Completed totals None ∷ []) why v g w h → HavePutLines (all.lines ++ end_line_by cause.Completed totals None ∷ []) why u f w h
  both why put = put_then all.lines (end_line_by cause.Completed totals None ∷ []) why u v w f g h all.put put

  pub completes : (result : Totals) → result ≡ totals → HavePutLines (end_line_by cause.Completed totals None ∷ []) None v g w h → IsExploredBelow explorer (Ok result) u f w h t n
  completes result same put = record {
    lines = all.lines ++ end_line_by cause.Completed totals None ∷ [];
    told = all_lines;
    put = both None put;
    answer = (ends, same ∙ (λ i. totals_by (sym all.knows.plans i) (length (sym all.knows.records i))) ∙ sym (ap counted all.report ∙ counted_is all.progress.lines Completed (totals_of all.progress.lines)));
    ticks = few;
  }

  pub stops_last : (error : PutError) → HavePutLines (end_line_by cause.Completed totals None ∷ []) (Some error) v g w h → IsExploredBelow explorer (Err (end_of error)) u f w h t n
  stops_last stop.Failed put = record {
    lines = all.lines ++ end_line_by cause.Completed totals None ∷ [];
    told = all_lines;
    put = both (Some stop.Failed) put;
    answer = tt;
    ticks = inl few;
  }
  stops_last stop.Memory put = record {
    lines = all.lines ++ end_line_by cause.Completed totals None ∷ [];
    told = all_lines;
    put = both (Some stop.Memory) put;
    answer = tt;
    ticks = (let before = few in omega (arith, before));
  }

-- ---- with the header

module _ (services : ServicesTree) (test : TestTree) (faults : ChoiceTable) (settings : Settings) (version : ℕ) (same : version ≡ faults.version)
    (u v w : Option (List ℕ)) (f g h : ℕ) where
  abbrev header : ℕ → Line
  header n = Header n settings.fuel settings.reduction

  abbrev with_header : List Line → List Line
  with_header lines = (header faults.version ∷ []) ++ lines

  header_put : (why : Option PutError) → HavePutLines (header version ∷ []) why u f v g → HavePutLines (header faults.version ∷ []) why u f v g
  header_put why put = subst (λ n. HavePutLines (header n ∷ []) why u f v g) same put

  module _ (result : Result Totals ExploreEnd) (put : HavePutLines (header version ∷ []) None u f v g) (lines : List Line)
      (told : lines_below services faults.version [] (explored services test faults settings) ≡ Some lines)
      (below : HavePutLines lines (stop_before_end result) v g w h) where
    put_all : HavePutLines (with_header lines) (stop_before_end result) u f w h
    put_all = put_then (header faults.version ∷ []) lines (stop_before_end result) u v w f g h (header_put None put) below

    pub all_explored : IsAnswerTo (explored services test faults settings) result → IsExplored services test faults settings result u w
    unfolding lines_of_campaign
    all_explored answer = record {
      lines = with_header lines;
      told = ap (option_map with_header) told;
      put = put_all.content;
      proper = put_all.proper;
      answer = answer;
    }

    pub all_cause : IsErrOf result end.LineFault → Rose f h
    all_cause is = put_all.cause (ap stop_before_end is)

    pub all_count : NeverFell f h
    all_count = put_all.count

  stopped_with : (error : PutError) (lines : List Line) → HavePutLines lines (Some error) u f v g
      → lines_of_campaign services faults.version settings (explored services test faults settings) ≡ Some lines → IsExplored services test faults settings (Err (end_of error)) u v
  stopped_with stop.Failed lines have told = record { lines = lines; told = told; put = have.content; proper = λ none. absurd (cc); answer = tt }
  stopped_with stop.Memory lines have told = record { lines = lines; told = told; put = have.content; proper = λ none. absurd (cc); answer = tt }

  -- the header wasn't put
  pub none_explored : (lines : List Line) → lines_of_campaign services faults.version settings (explored services test faults settings) ≡ Some lines
      → (error : PutError) → HavePutLines (header version ∷ []) (Some error) u f v g → IsExplored services test faults settings (Err (end_of error)) u v
  unfolding lines_of_campaign
  none_explored lines told error put =
      let below = below_of services faults.version settings (explored services test faults settings) lines told in
      stopped_with error (with_header below.0) (put_short (header faults.version ∷ []) below.0 error u v f g (header_put (Some error) put)) (ap (option_map with_header) below.1)
