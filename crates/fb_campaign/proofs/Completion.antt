-- A completed campaign is valid.
use Rattle.std.proofs.Common.{◌≡◌, ⊎_elim, ℕ, zero, suc, ◌-◌, ◌<◌, ◌≤◌, Bool, true, Some, List, [], ◌∷◌, ◌++◌, map, take, length, slice_get, position, Contains, refl, sym, ap, ◌∙◌, subst, arith, append-nil, take_at}
use Rattle.std.proofs.lemmas.Option.{same_Some}
use Rattle.std.proofs.lemmas.List.{length-map, map-append, length_push}
use Rattle.std.proofs.lemmas.List.Elements.{filter_map-append}
use Rattle.fb_index.specs.declared.fault.Fault.{Fault}
use Rattle.fb_campaign.specs.Runs.{Went, Runs, Gives, Choices, AreDistinct, AreLawful, AreChoices}
use Rattle.fb_campaign.specs.Plans.{injections_in, extensions_of, extensions, level, plans}
use Rattle.fb_campaign.specs.Reports.{Recorded, Planned, Completed, Line, PlanLine, EndLine, record_of_line, plan_of_line, record_lines, plan_lines, plans_in, totals_of}
use Rattle.fb_campaign.specs.Valid.{IsRoot, IsChild, IsSpelled, AreOwners, OwnsSome, IsValid}
use Rattle.fb_campaign.specs.Campaign.{Settings, same_plan, shorter, parent_in, campaign, ended, IsCompleted}
use Rattle.fb_campaign.proofs.Lists.{in_same, in_middle, in_map, map_has, in_get, get_left, get_within, get_map, parts_cut, one_cut, one_place, made_at}
use Rattle.fb_campaign.proofs.Sameness.{same_plan-Decides}
use Rattle.fb_campaign.proofs.Answers.{fault_of}
use Rattle.fb_campaign.proofs.Meeting.{extensions_done}
use Rattle.fb_campaign.proofs.Levels.{extended, in_levels, at_level, above_level, next_level, no_fault, planned_met, level_within, plans_differ, earlier_plan, first_plan}
use Rattle.fb_campaign.proofs.Uses.{line_of_plan, plan_split}
use Rattle.fb_campaign.proofs.Records.{position_found}
use Rattle.fb_campaign.proofs.Progress.{IsWritten, IsSound}
use Rattle.fb_campaign.proofs.Campaigns.{reached, all_reached}

-- ---- the number of the line of a plan's parent

shorter_push : (plan : List Fault) (fault : Fault) → shorter (plan ++ fault ∷ []) ≡ plan
shorter_push plan fault =
    let long : length (plan ++ fault ∷ []) - 1 ≡ length plan = (let more = length_push plan fault in omega (arith, more)) in
    ap (λ n. take n (plan ++ fault ∷ [])) long ∙ take_at plan (fault ∷ []) (length plan) refl

parent_push : (lines : List Line) (plan : List Fault) (fault : Fault)
    → parent_in lines (plan ++ fault ∷ []) ≡ position (λ line. same_plan line.plan (shorter (plan ++ fault ∷ []))) (plan_lines lines)
parent_push lines [] fault = refl
parent_push lines (first ∷ plan) fault = refl

pub parent_of : (lines : List Line) (plan : List Fault) (fault : Fault)
    → parent_in lines (plan ++ fault ∷ []) ≡ position (λ line. same_plan line.plan plan) (plan_lines lines)
parent_of lines plan fault =
    parent_push lines plan fault ∙ ap (λ shorter_one. position (λ line. same_plan line.plan shorter_one) (plan_lines lines)) (shorter_push plan fault)

module _ (gives : Gives) (runs : Runs) (choices : Choices) (lawful : AreLawful gives runs) (fitting : AreChoices gives choices)
    (fuel : ℕ) (reduction : Bool) (body : List Line) (sound : IsSound runs fuel reduction (plans runs choices fuel) body) where
  abbrev end : Line
  end = EndLine Completed (totals_of body)

  abbrev whole : List Line
  whole = body ++ end ∷ []

  plans_whole : plan_lines whole ≡ plan_lines body
  plans_whole = filter_map-append plan_of_line body (end ∷ []) ∙ append-nil (plan_lines body)

  records_whole : record_lines whole ≡ record_lines body
  records_whole = filter_map-append record_of_line body (end ∷ []) ∙ append-nil (record_lines body)

  all_plans : plans_in whole ≡ plans runs choices fuel
  all_plans = ap (map (λ (p : Planned). p.plan)) plans_whole ∙ sound.planned

  written : (line : Planned) → Contains (plan_lines body) line → (above : List Line) × IsWritten runs fuel above line
  written line has = (let parts = plan_split body line has in (parts.before, sound.written parts.before line parts.after parts.is))

  planned : (line : Planned) → Contains (plan_lines body) line → Contains (plans runs choices fuel) line.plan
  planned line has = in_same line.plan _ _ sound.planned (in_map (λ (p : Planned). p.plan) line (plan_lines body) has)

  in_body : (number : ℕ) (line : Planned) → slice_get (plan_lines whole) number ≡ Some line → slice_get (plan_lines body) number ≡ Some line
  in_body number line is = ap (λ lines. slice_get lines number) (sym plans_whole) ∙ is

  -- the plans that extend a line's plan by its own calls
  extends : (line : Planned) (longer : List Fault) → Contains (plan_lines body) line
      → (Contains (extensions runs choices fuel line.plan) longer → Contains (extensions_of choices line.visits line.plan) longer)
      × (Contains (extensions_of choices line.visits line.plan) longer → Contains (extensions runs choices fuel line.plan) longer)
  extends line longer has =
      let here = (written line has).1 in
      let same = extensions_done gives runs choices lawful fuel line.plan here.went here.done ∙ ap (λ visits. extensions_of choices visits line.plan) (sym here.visits) in
      (in_same longer _ _ same, in_same longer _ _ (sym same))

  -- ---- the first line, and the others

  root : (line : Planned) → slice_get (plan_lines whole) 0 ≡ Some line → IsRoot line
  root line is =
      let there = in_body 0 line is in
      let here = (written line (in_get (plan_lines body) 0 line there)).1 in
      let none : line.plan ≡ [] =
      same_Some line.plan [] (sym (get_map (λ (p : Planned). p.plan) (plan_lines body) 0 line there)
      ∙ ap (λ ps. slice_get ps 0) sound.planned ∙ first_plan runs choices fuel fuel) in
      record {
        no_parent = here.parent ∙ ap (parent_in (written line (in_get (plan_lines body) 0 line there)).0) none;
        no_fault = none;
        is_run = sound.root line there;
      }

  -- only the first plan has no fault
  has_fault : (number : ℕ) (line : Planned) → slice_get (plan_lines body) (suc number) ≡ Some line → ¬ (line.plan ≡ [])
  has_fault number line there none =
      let again = ap (λ ps. slice_get ps (suc number)) (sym sound.planned) ∙ get_map (λ (p : Planned). p.plan) (plan_lines body) (suc number) line there ∙ ap Some none in
      let same = one_place (plans runs choices fuel) 0 (suc number) [] (plans_differ gives runs choices lawful fitting fuel) (first_plan runs choices fuel fuel) again in
      absurd (omega (arith, same))

  -- the plan that it extends, which is a plan of the campaign
  record Above (line : Planned) : Type 0 where
    plan : List Fault
    planned_too : Contains (plans runs choices fuel) plan
    added : Contains (extensions runs choices fuel plan) line.plan

  above_line : (number : ℕ) (line : Planned) → slice_get (plan_lines body) (suc number) ≡ Some line → Above line
  above_line number line there =
      let found = at_level runs choices fuel fuel line.plan (planned line (in_get (plan_lines body) (suc number) line there)) in
      by_count found.count found.within found.has
    where
      by_count : (count : ℕ) → count ≤ fuel → Contains (level runs choices fuel count) line.plan → Above line
      by_count zero within has = absurd (has_fault number line there (no_fault runs choices fuel line.plan has))
      by_count (suc count) within has =
          let up = above_level runs choices fuel count line.plan has in
          record { plan = up.0; planned_too = in_levels runs choices fuel count fuel up.0 (omega (arith, within)) up.1; added = up.2 }

  child : (number : ℕ) (line : Planned) → slice_get (plan_lines whole) (suc number) ≡ Some line → IsChild choices whole (suc number) line
  child number line is =
      let there = in_body (suc number) line is in
      let at = made_at plan_of_line body (suc number) line there in
      let item : at.item ≡ PlanLine line = line_of_plan at.item line at.made in
      let parts : body ≡ at.before ++ PlanLine line ∷ at.after = at.is ∙ ap (λ (l : Line). at.before ++ l ∷ at.after) item in
      let cut : plan_lines body ≡ plan_lines at.before ++ line ∷ plan_lines at.after =
      ap plan_lines parts ∙ filter_map-append plan_of_line at.before (PlanLine line ∷ at.after) in
      let here = sound.written at.before line at.after parts in
      let up = above_line number line there in
      let plans_cut : plans runs choices fuel ≡ plans_in at.before ++ line.plan ∷ plans_in at.after =
      sym sound.planned ∙ ap (map (λ (p : Planned). p.plan)) cut ∙ map-append (λ (p : Planned). p.plan) (plan_lines at.before) (line ∷ plan_lines at.after) in
      let early = earlier_plan runs choices fuel (plans_in at.before) (plans_in at.after) up.plan line.plan plans_cut up.planned_too up.added in
      let line_up = map_has (λ (p : Planned). p.plan) up.plan (plan_lines at.before) early in
      let found = position_found (λ (p : Planned). same_plan p.plan up.plan) line_up.0 (plan_lines at.before) line_up.1 ((same_plan-Decides line_up.0.plan up.plan).1 line_up.2) in
      let parent = found.2.0 in
      let parent_at : slice_get (plan_lines body) found.0 ≡ Some parent =
      ap (λ lines. slice_get lines found.0) cut ∙ get_left (plan_lines at.before) (line ∷ plan_lines at.after) found.0 parent found.2.1 in
      let same : parent.plan ≡ up.plan = (same_plan-Decides parent.plan up.plan).0 found.2.2 in
      let added = (extended runs choices fuel up.plan line.plan up.added).added in
      record {
        place = found.0;
        parent = parent;
        named = here.parent ∙ ap (parent_in at.before) added.is ∙ parent_of at.before up.plan (fault_of added.visit.index added.given) ∙ found.1;
        earlier = (let within = get_within (plan_lines at.before) found.0 parent found.2.1 in let long = at.long in omega (arith, within, long));
        there = ap (λ lines. slice_get lines found.0) plans_whole ∙ parent_at;
        extended = (extends parent line.plan (in_get (plan_lines body) found.0 parent parent_at)).0
            (subst (λ plan. Contains (extensions runs choices fuel plan) line.plan) (sym same) up.added);
      }

  -- ---- its tree

  spelled : (above : List Line) (line : Planned) → Contains (plan_lines body) line → IsWritten runs fuel above line → IsSpelled runs fuel above line
  spelled above line has here =
      let met = planned_met gives runs choices lawful fitting fuel line.plan (planned line has) here.went here.done in
      let same = same_Some here.went met.went (sym here.done ∙ met.done) in
      record {
        went = here.went;
        done = here.done;
        visits = here.visits;
        records = here.records;
        injected = ap injections_in (here.visits ∙ ap (λ (w : Went). w.visits) same) ∙ met.injected;
        used = here.used;
      }

  trees : (above : List Line) (line : Planned) (below : List Line) → whole ≡ above ++ PlanLine line ∷ below → IsSpelled runs fuel above line
  trees above line below is =
      ⊎_elim
      (λ early. spelled above line
      (in_same line _ _ (sym (ap plan_lines early.1 ∙ filter_map-append plan_of_line above (PlanLine line ∷ early.0))) (in_middle (plan_lines above) (plan_lines early.0) line))
      (sound.written above line early.0 early.1))
      (λ last. (let one = (one_cut end (PlanLine line) last.0 below last.2).1 in absurd (cc)))
      (parts_cut body (end ∷ []) above below (PlanLine line) is)

  outcomes : (line : Planned) (went : Went) → Contains (plan_lines whole) line → runs fuel line.plan ≡ Some went → line.outcome ≡ went.outcome
  outcomes line went has done =
      let here = (written line (in_same line _ _ plans_whole has)).1 in
      here.outcome ∙ ap (λ (w : Went). w.outcome) (same_Some here.went went (sym here.done ∙ done))

  complete : (line : Planned) (longer : List Fault) → Contains (plan_lines whole) line → Contains (extensions_of choices line.visits line.plan) longer
      → Contains (plans_in whole) longer
  complete line longer has added =
      let there = in_same line _ _ plans_whole has in
      let at = at_level runs choices fuel fuel line.plan (planned line there) in
      let next = next_level runs choices fuel at.count line.plan longer at.has ((extends line longer there).1 added) in
      let within = level_within gives runs choices lawful fitting fuel (suc at.count) longer next in
      in_same longer _ _ (sym all_plans) (in_levels runs choices fuel (suc at.count) fuel longer within next)

  owners : AreOwners whole
  owners = record {
    owned = λ place line is. (
        let old = sound.owners.owned place line (ap (λ rs. slice_get rs place) (sym records_whole) ∙ is) in
        record { line = old.line; there = ap (λ lines. slice_get lines line.owner) plans_whole ∙ old.there; is_run = old.is_run; uses = old.uses });
    earlier = λ number line is pruned place used uses at.
        sound.owners.earlier number line (in_body number line is) pruned place used uses (ap (λ rs. slice_get rs place) (sym records_whole) ∙ at);
  }

  reduced : reduction ≡ true → (number : ℕ) (line : Planned) → slice_get (plan_lines whole) (suc number) ≡ Some line → line.is_run ≡ true → OwnsSome whole (suc number)
  reduced on number line is run =
      let owns = sound.reduced on number line (in_body (suc number) line is) run in
      (owns.0, in_same owns.0 _ _ (sym records_whole) owns.1, owns.2)

  some_plan : 0 < length (plan_lines body)
  some_plan =
      let long = length-map (plan_lines body) (λ (p : Planned). p.plan) in
      let within = get_within (plans_in body) 0 [] (ap (λ ps. slice_get ps 0) sound.planned ∙ first_plan runs choices fuel fuel) in
      omega (arith, long, within)

  pub whole_valid : IsValid runs choices fuel reduction whole
  whole_valid = record {
    structure = record { body = body; ended = refl; no_earlier_end = sound.no_end; some_plan = some_plan };
    records = subst AreDistinct (ap (map (λ (r : Recorded). r.item)) (sym records_whole)) sound.records;
    parents = record { root = root; child = child; once = subst AreDistinct (sym all_plans) (plans_differ gives runs choices lawful fitting fuel) };
    trees = trees;
    outcomes = outcomes;
    complete = complete;
    owners = owners;
    reduced = reduced;
  }

-- a completed campaign is valid
pub completed_valid : (gives : Gives) (runs : Runs) (choices : Choices) → AreLawful gives runs → AreChoices gives choices → (settings : Settings)
    → IsCompleted (campaign settings runs (plans runs choices settings.fuel))
    → IsValid runs choices settings.fuel settings.reduction (campaign settings runs (plans runs choices settings.fuel))
completed_valid gives runs choices lawful fitting settings completed =
    let all = plans runs choices settings.fuel in
    let found = reached settings runs all in
    let why = all_reached settings runs all (campaign settings runs all) completed.0 completed.1 found completed.2 in
    let past : found.past ≡ all = sym (found.parts ∙ ap (λ rest. found.past ++ rest) why.0 ∙ append-nil found.past) in
    let lines : campaign settings runs all ≡ ended found.progress Completed = found.is ∙ ap (ended found.progress) why.1 in
    subst (IsValid runs choices settings.fuel settings.reduction) (sym lines)
    (whole_valid gives runs choices lawful fitting settings.fuel settings.reduction found.progress.lines
    (subst (λ plans_done. IsSound runs settings.fuel settings.reduction plans_done found.progress.lines) past found.kept.sound))
