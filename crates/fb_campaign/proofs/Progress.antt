-- What holds of the lines of a campaign after each plan.
use Rattle.std.proofs.Common.{◌≡◌, ⊎_elim, ℕ, suc, ◌+◌, ◌<◌, Bool, true, false, cond, Some, List, [], ◌∷◌, ◌++◌, map, filter, length, slice_get, Contains, refl, sym, ap, ◌∙◌, subst, arith, append-nil, length-append}
use Rattle.std.proofs.lemmas.Option.{same_Some}
use Rattle.std.proofs.lemmas.List.{map-append, length-map}
use Rattle.std.proofs.lemmas.List.Elements.{Contains-append_left, Contains-append_right, Contains-append_cases, filter_map-append, filter-append}
use Rattle.fb_index.specs.declared.fault.Fault.{Fault}
use Rattle.fb_tree.specs.declared.recorded.Record.{Record}
use Rattle.fb_campaign.specs.Runs.{Went, Runs, AreDistinct}
use Rattle.fb_campaign.specs.Plans.{AreAmong}
use Rattle.fb_campaign.specs.Reports.{Recorded, Planned, Cause, Totals, Line, RecordLine, PlanLine, EndLine, record_of_line, plan_of_line, record_lines, plan_lines, records_in, plans_in, run_lines}
use Rattle.fb_campaign.specs.Valid.{IsOwned, AreOwners, OwnsSome}
use Rattle.fb_campaign.specs.Campaign.{parent_in, uses_of}
use Rattle.fb_campaign.proofs.Lists.{in_none, in_head, in_cases, in_same, in_map, map_has, in_get, get_left, get_within, get_next, get_cases, get_parts, some_first, get_behind, map_get, parts_cut, one_cut, one_place, distinct_append}
use Rattle.fb_campaign.proofs.Uses.{Names, names_above, plan_split}
use Rattle.fb_campaign.proofs.Records.{uses_name}

-- ---- lines of records

abbrev pub owned : ℕ → List Record → List Line
owned number fresh = map (λ item. RecordLine (record { item = item; owner = number })) fresh

owned_plans : (number : ℕ) (fresh : List Record) → plan_lines (owned number fresh) ≡ []
owned_plans number [] = refl
owned_plans number (item ∷ fresh) = owned_plans number fresh

owned_records : (number : ℕ) (fresh : List Record) → record_lines (owned number fresh) ≡ map (λ item. record { item = item; owner = number }) fresh
owned_records number [] = refl
owned_records number (item ∷ fresh) = ap (λ lines. record { item = item; owner = number } ∷ lines) (owned_records number fresh)

owned_items : (number : ℕ) (fresh : List Record) → records_in (owned number fresh) ≡ fresh
owned_items number [] = refl
owned_items number (item ∷ fresh) = ap (λ items. item ∷ items) (owned_items number fresh)

not_owned : (number : ℕ) (fresh : List Record) (line : Line) → ((r : Recorded) → ¬ (line ≡ RecordLine r)) → ¬ (Contains (owned number fresh) line)
not_owned number fresh line other has =
    (let found = map_has (λ item. RecordLine (record { item = item; owner = number })) line fresh has in
    other (record { item = found.0; owner = number }) (sym found.2))

-- ---- what each plan line says

pub record IsWritten (runs : Runs) (fuel : ℕ) (above : List Line) (line : Planned) : Type 0 where
  pub went : Went
  pub done : runs fuel line.plan ≡ Some went
  pub visits : line.visits ≡ went.visits
  pub records : line.records ≡ went.records
  pub outcome : line.outcome ≡ went.outcome
  pub used : map (slice_get (records_in above)) line.uses ≡ map Some line.records
  pub parent : line.parent ≡ parent_in above line.plan

-- what holds after some plans
pub record IsSound (runs : Runs) (fuel : ℕ) (reduction : Bool) (done : List (List Fault)) (lines : List Line) : Type 0 where
  pub planned : plans_in lines ≡ done
  pub records : AreDistinct (records_in lines)
  pub written : (above : List Line) (line : Planned) (below : List Line) → lines ≡ above ++ PlanLine line ∷ below → IsWritten runs fuel above line
  pub owners : AreOwners lines
  pub reduced : reduction ≡ true → (number : ℕ) (line : Planned) → slice_get (plan_lines lines) (suc number) ≡ Some line →
      line.is_run ≡ true → OwnsSome lines (suc number)
  pub no_end : (cause : Cause) (totals : Totals) → ¬ (Contains lines (EndLine cause totals))
  pub root : (line : Planned) → slice_get (plan_lines lines) 0 ≡ Some line → line.is_run ≡ true

pub names_written : (runs : Runs) (fuel : ℕ) (reduction : Bool) (past : List (List Fault)) (lines : List Line) → IsSound runs fuel reduction past lines
    → (line : Planned) → Contains (plan_lines lines) line → Names lines line.uses line.records
names_written runs fuel reduction past lines sound line has =
    let parts = plan_split lines line has in
    names_above lines parts.before parts.after (PlanLine line) parts.is line.uses line.records
    (sound.written parts.before line parts.after parts.is).used

-- the records that a plan's line adds
pub record IsFresh (reduction : Bool) (lines : List Line) (went : Went) (is_run : Bool) (fresh : List Record) : Type 0 where
  pub differ : AreDistinct fresh
  pub unknown : (item : Record) → Contains fresh item → ¬ (Contains (records_in lines) item)
  pub among : AreAmong fresh went.records
  pub all : AreAmong went.records (records_in lines ++ fresh)
  pub pruned : is_run ≡ false → (fresh ≡ []) × (0 < length (plan_lines lines))
  pub added : reduction ≡ true → is_run ≡ true → 0 < length (plan_lines lines) → 0 < length fresh

-- ---- from one plan to the next

module _ (runs : Runs) (fuel : ℕ) (reduction : Bool) (past : List (List Fault)) (lines : List Line) (sound : IsSound runs fuel reduction past lines)
    (plan : List Fault) (went : Went) (done : runs fuel plan ≡ Some went) (is_run : Bool) (fresh : List Record)
    (is_fresh : IsFresh reduction lines went is_run fresh) where
  abbrev number : ℕ
  number = length (plan_lines lines)

  abbrev above : List Line
  above = lines ++ owned number fresh

  abbrev added : Planned
  added = record {
    plan = plan;
    parent = parent_in above plan;
    is_run = is_run;
    uses = uses_of (records_in above) went.records;
    visits = went.visits;
    records = went.records;
    outcome = went.outcome;
  }

  abbrev next : List Line
  next = above ++ PlanLine added ∷ []

  plans_above : plan_lines above ≡ plan_lines lines
  plans_above =
      filter_map-append plan_of_line lines (owned number fresh)
      ∙ ap (λ more. plan_lines lines ++ more) (owned_plans number fresh) ∙ append-nil (plan_lines lines)

  plans_next : plan_lines next ≡ plan_lines lines ++ added ∷ []
  plans_next = filter_map-append plan_of_line above (PlanLine added ∷ []) ∙ ap (λ more. more ++ added ∷ []) plans_above

  record_lines_next : record_lines next ≡ record_lines lines ++ map (λ item. record { item = item; owner = number }) fresh
  record_lines_next =
      filter_map-append record_of_line above (PlanLine added ∷ []) ∙ append-nil (record_lines above)
      ∙ filter_map-append record_of_line lines (owned number fresh)
      ∙ ap (λ more. record_lines lines ++ more) (owned_records number fresh)

  records_above : records_in above ≡ records_in lines ++ fresh
  records_above =
      ap (map (λ (r : Recorded). r.item)) (filter_map-append record_of_line lines (owned number fresh))
      ∙ map-append (λ (r : Recorded). r.item) (record_lines lines) (record_lines (owned number fresh))
      ∙ ap (λ more. records_in lines ++ more) (owned_items number fresh)

  records_next : records_in next ≡ records_in lines ++ fresh
  records_next =
      ap (map (λ (r : Recorded). r.item)) (filter_map-append record_of_line above (PlanLine added ∷ []) ∙ append-nil (record_lines above)) ∙ records_above

  planned_next : plans_in next ≡ past ++ plan ∷ []
  planned_next =
      ap (map (λ (p : Planned). p.plan)) plans_next ∙ map-append (λ (p : Planned). p.plan) (plan_lines lines) (added ∷ [])
      ∙ ap (λ plans. plans ++ plan ∷ []) sound.planned

  records_differ : AreDistinct (records_in lines ++ fresh)
  records_differ = distinct_append (records_in lines) fresh sound.records is_fresh.differ (λ item old new. is_fresh.unknown item new old)

  used_next : map (slice_get (records_in above)) added.uses ≡ map Some went.records
  used_next = uses_name (records_in above) went.records (λ item has. in_same item _ _ (sym records_above) (is_fresh.all item has))

  written_here : IsWritten runs fuel above added
  written_here = record { went = went; done = done; visits = refl; records = refl; outcome = refl; used = used_next; parent = refl }

  written_next : (before : List Line) (line : Planned) (below : List Line) → next ≡ before ++ PlanLine line ∷ below → IsWritten runs fuel before line
  written_next before line below is =
      ⊎_elim
      (λ early. ⊎_elim (λ old. sound.written before line old.0 old.1)
      (λ own. absurd (not_owned number fresh (PlanLine line) (λ r same. absurd (cc))
      (in_same (PlanLine line) _ _ (sym own.2) (Contains-append_right own.0 (PlanLine line ∷ early.0) (PlanLine line) (in_head (PlanLine line) early.0)))))
      (parts_cut lines (owned number fresh) before early.0 (PlanLine line) early.1))
      (λ last. (
      let one = one_cut (PlanLine added) (PlanLine line) last.0 below last.2 in
      let line_same : added ≡ line = same_Some added line (ap plan_of_line one.1) in
      let before_same : above ≡ before = sym (last.1 ∙ ap (λ more. above ++ more) one.0 ∙ append-nil above) in
      subst (λ a. IsWritten runs fuel a line) before_same (subst (IsWritten runs fuel above) line_same written_here)))
      (parts_cut above (PlanLine added ∷ []) before below (PlanLine line) is)

  -- ---- owners

  owned_old : (place owner : ℕ) → IsOwned lines place owner → IsOwned next place owner
  owned_old place owner old = record {
    line = old.line;
    there = ap (λ planned. slice_get planned owner) plans_next ∙ get_left (plan_lines lines) (added ∷ []) owner old.line old.there;
    is_run = old.is_run;
    uses = old.uses;
  }

  was_run : (b : Bool) → is_run ≡ b → 0 < length fresh → is_run ≡ true
  was_run true is some = is
  was_run false is some = (let none = ap length (is_fresh.pruned is).0 in absurd (omega (arith, none, some)))

  owned_new : (j : ℕ) (line : Recorded) → slice_get (map (λ item. record { item = item; owner = number }) fresh) j ≡ Some line
      → IsOwned next (length (record_lines lines) + j) line.owner
  owned_new j line is =
      let item = map_get (λ item. record { item = item; owner = number }) fresh j line is in
      let within = get_within fresh j item.0 item.1 in
      let known = is_fresh.among item.0 (in_get fresh j item.0 item.1) in
      let used = map_has (slice_get (records_in above)) (Some item.0) added.uses (in_same (Some item.0) _ _ (sym used_next) (in_map Some item.0 went.records known)) in
      let long = length-map (record_lines lines) (λ (r : Recorded). r.item) in
      let there = get_behind (records_in lines) fresh j item.0 item.1 in
      let same : used.0 ≡ length (record_lines lines) + j =
      one_place (records_in lines ++ fresh) used.0 (length (record_lines lines) + j) item.0 records_differ
      (ap (λ items. slice_get items used.0) (sym records_above) ∙ used.2)
      (ap (λ n. slice_get (records_in lines ++ fresh) (n + j)) (sym long) ∙ there) in
      subst (IsOwned next (length (record_lines lines) + j)) (ap (λ (r : Recorded). r.owner) item.2)
      (record {
        line = added;
        there = ap (λ planned. slice_get planned number) plans_next ∙ get_next (plan_lines lines) [] added;
        is_run = was_run is_run refl (omega (arith, within));
        uses = subst (Contains added.uses) same used.1;
      })

  owned_next : (place : ℕ) (line : Recorded) → slice_get (record_lines next) place ≡ Some line → IsOwned next place line.owner
  owned_next place line is =
      ⊎_elim (λ old. owned_old place line.owner (sound.owners.owned place line old))
      (λ late. subst (λ k. IsOwned next k line.owner) (sym late.1) (owned_new late.0 line late.2))
      (get_parts (record_lines lines) (map (λ item. record { item = item; owner = number }) fresh) place line
      (ap (λ rs. slice_get rs place) (sym record_lines_next) ∙ is))

  -- the record that an earlier line uses was there already
  used_old : (line : Planned) → Contains (plan_lines lines) line → (place : ℕ) (used : Recorded) → Contains line.uses place
      → slice_get (record_lines next) place ≡ Some used → slice_get (record_lines lines) place ≡ Some used
  used_old line has place used uses is =
      let found = (names_written runs fuel reduction past lines sound line has).used place uses in
      let old = map_get (λ (r : Recorded). r.item) (record_lines lines) place found.0 found.2 in
      let again = ap (λ rs. slice_get rs place) record_lines_next ∙ get_left (record_lines lines) (map (λ item. record { item = item; owner = number }) fresh) place old.0 old.1 in
      old.1 ∙ sym again ∙ is

  earlier_next : (n : ℕ) (line : Planned) → slice_get (plan_lines next) n ≡ Some line → line.is_run ≡ false → (place : ℕ) (used : Recorded)
      → Contains line.uses place → slice_get (record_lines next) place ≡ Some used → used.owner < n
  earlier_next n line there pruned place used uses is =
      ⊎_elim
      (λ old. sound.owners.earlier n line old pruned place used uses (used_old line (in_get (plan_lines lines) n line old) place used uses is))
      (λ last. (
      let none = (is_fresh.pruned (ap (λ (p : Planned). p.is_run) last.1 ∙ pruned)).0 in
      let only : record_lines next ≡ record_lines lines =
      record_lines_next ∙ ap (λ items. record_lines lines ++ map (λ item. record { item = item; owner = number }) items) none ∙ append-nil (record_lines lines) in
      let owner = sound.owners.owned place used (ap (λ rs. slice_get rs place) (sym only) ∙ is) in
      let below = get_within (plan_lines lines) used.owner owner.line owner.there in
      let at = last.0 in
      omega (arith, below, at)))
      (get_cases (plan_lines lines) added n line (ap (λ planned. slice_get planned n) (sym plans_next) ∙ there))

  -- ---- what reduction promises

  owns_old : (n : ℕ) → OwnsSome lines n → OwnsSome next n
  owns_old n old =
      (old.0, in_same old.0 _ _ (sym record_lines_next) (Contains-append_left (record_lines lines) (map (λ item. record { item = item; owner = number }) fresh) old.0 old.1), old.2)

  owns_new : 0 < length fresh → OwnsSome next number
  owns_new some =
      let first = some_first fresh some in
      let line : Recorded = record { item = first.0; owner = number } in (
        line,
        in_same line _ _ (sym record_lines_next)
            (Contains-append_right (record_lines lines) (map (λ item. record { item = item; owner = number }) fresh) line
            (in_map (λ item. record { item = item; owner = number }) first.0 fresh (in_get fresh 0 first.0 first.1))),
        refl,
      )

  reduced_next : reduction ≡ true → (n : ℕ) (line : Planned) → slice_get (plan_lines next) (suc n) ≡ Some line → line.is_run ≡ true → OwnsSome next (suc n)
  reduced_next on n line there run =
      ⊎_elim (λ old. owns_old (suc n) (sound.reduced on n line old run))
      (λ last. (
      let at = last.0 in
      subst (OwnsSome next) (sym at) (owns_new (is_fresh.added on (ap (λ (p : Planned). p.is_run) last.1 ∙ run) (omega (arith, at))))))
      (get_cases (plan_lines lines) added (suc n) line (ap (λ planned. slice_get planned (suc n)) (sym plans_next) ∙ there))

  no_end_next : (cause : Cause) (totals : Totals) → ¬ (Contains next (EndLine cause totals))
  no_end_next cause totals has =
      ⊎_elim
      (λ early. ⊎_elim (sound.no_end cause totals) (not_owned number fresh (EndLine cause totals) (λ r same. absurd (cc)))
      (Contains-append_cases lines (owned number fresh) (EndLine cause totals) early))
      (λ last. ⊎_elim (λ same. absurd (cc)) (λ none. in_none (EndLine cause totals) none) (in_cases (EndLine cause totals) (PlanLine added) [] last))
      (Contains-append_cases above (PlanLine added ∷ []) (EndLine cause totals) has)

  root_next : (line : Planned) → slice_get (plan_lines next) 0 ≡ Some line → line.is_run ≡ true
  root_next line there =
      ⊎_elim (λ old. sound.root line old) (λ last. ap (λ (p : Planned). p.is_run) (sym last.1) ∙ first_run is_run refl last.0)
      (get_cases (plan_lines lines) added 0 line (ap (λ planned. slice_get planned 0) (sym plans_next) ∙ there))
    where
      first_run : (b : Bool) → is_run ≡ b → 0 ≡ number → is_run ≡ true
      first_run true is at = is
      first_run false is at = (let some = (is_fresh.pruned is).1 in absurd (omega (arith, some, at)))

  pub run_next : (b : Bool) → is_run ≡ b → length (run_lines next) ≡ length (run_lines lines) + cond b 1 0
  run_next b is =
      ap (λ planned. length (filter (λ (p : Planned). p.is_run) planned)) plans_next
      ∙ ap length (filter-append (λ (p : Planned). p.is_run) (plan_lines lines) (added ∷ []))
      ∙ length-append (run_lines lines) (filter (λ (p : Planned). p.is_run) (added ∷ []))
      ∙ ap (λ n. length (run_lines lines) + n) (one b is)
    where
      one : (b : Bool) → is_run ≡ b → length (cond is_run (added ∷ []) []) ≡ cond b 1 0
      one true is = ap (λ t. length (cond t (added ∷ []) [])) is
      one false is = ap (λ t. length (cond t (added ∷ []) [])) is

  pub sound_next : IsSound runs fuel reduction (past ++ plan ∷ []) next
  sound_next = record {
    planned = planned_next;
    records = subst AreDistinct (sym records_next) records_differ;
    written = written_next;
    owners = record { owned = owned_next; earlier = earlier_next };
    reduced = reduced_next;
    no_end = no_end_next;
    root = root_next;
  }
