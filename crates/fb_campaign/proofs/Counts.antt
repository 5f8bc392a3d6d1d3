-- How many lines are run: no more than there are records, and one.
use Rattle.std.proofs.Common.{◌≡◌, ⊎_elim, ℕ, zero, suc, ◌+◌, ◌≤◌, Bool, true, false, cond, Some, List, [], ◌∷◌, map, filter, length, slice_get, Contains, refl, sym, ap, ◌∙◌, subst, arith}
use Rattle.std.proofs.lemmas.Option.{same_Some}
use Rattle.std.proofs.lemmas.List.{length-map}
use Rattle.fb_tree.specs.declared.recorded.Record.{Record}
use Rattle.fb_campaign.specs.Runs.{Went, Runs, Gives, Choices, AreDistinct, AreLawful, AreChoices}
use Rattle.fb_campaign.specs.Plans.{AreAmong, HaveRecordsOfMet}
use Rattle.fb_campaign.specs.Reports.{Recorded, Planned, Line, record_lines, plan_lines, records_in, run_lines}
use Rattle.fb_campaign.specs.Valid.{IsValid}
use Rattle.fb_campaign.proofs.Lists.{in_none, in_head, in_tail, in_cases, in_same, in_map, in_get, get_in, no_more_than}
use Rattle.fb_campaign.proofs.Uses.{shown_at}
use Rattle.fb_campaign.proofs.Validity.{spelled, line_met, names}

-- the numbers of the run lines, where the first line has number k
abbrev run_numbers : ℕ → List Planned → List ℕ
run_numbers k [] = []
run_numbers k (line ∷ lines) = cond line.is_run (k ∷ run_numbers (suc k) lines) (run_numbers (suc k) lines)

numbers_long : (k : ℕ) (lines : List Planned) → length (run_numbers k lines) ≡ length (filter (λ line. line.is_run) lines)
numbers_long k [] = refl
numbers_long k (line ∷ lines) = long line.is_run (numbers_long (suc k) lines)
  where
    long : (b : Bool) → length (run_numbers (suc k) lines) ≡ length (filter (λ line. line.is_run) lines)
        → length (cond b (k ∷ run_numbers (suc k) lines) (run_numbers (suc k) lines)) ≡ length (cond b (line ∷ filter (λ line. line.is_run) lines) (filter (λ line. line.is_run) lines))
    long true rest = ap suc rest
    long false rest = rest

record RunAt (k number : ℕ) (lines : List Planned) : Type 0 where
  place : ℕ
  line : Planned
  is : number ≡ k + place
  there : slice_get lines place ≡ Some line
  is_run : line.is_run ≡ true

run_at : (k : ℕ) (lines : List Planned) (number : ℕ) → Contains (run_numbers k lines) number → RunAt k number lines
run_at k [] number has = in_none number has
run_at k (line ∷ lines) number has = at line.is_run refl has (λ later. further (run_at (suc k) lines number later))
  where
    further : RunAt (suc k) number lines → RunAt k number (line ∷ lines)
    further found = record {
      place = suc found.place;
      line = found.line;
      is = (let is = found.is in omega (arith, is));
      there = found.there;
      is_run = found.is_run;
    }

    at : (b : Bool) → line.is_run ≡ b → Contains (cond b (k ∷ run_numbers (suc k) lines) (run_numbers (suc k) lines)) number
        → (Contains (run_numbers (suc k) lines) number → RunAt k number (line ∷ lines)) → RunAt k number (line ∷ lines)
    at true is here rest =
        ⊎_elim (λ same. record { place = 0; line = line; is = sym same ∙ omega arith; there = refl; is_run = is }) rest
        (in_cases number k (run_numbers (suc k) lines) here)
    at false is later rest = rest later

numbers_differ : (k : ℕ) (lines : List Planned) → AreDistinct (run_numbers k lines)
numbers_differ k [] = tt
numbers_differ k (line ∷ lines) = differ line.is_run (numbers_differ (suc k) lines)
  where
    differ : (b : Bool) → AreDistinct (run_numbers (suc k) lines) → AreDistinct (cond b (k ∷ run_numbers (suc k) lines) (run_numbers (suc k) lines))
    differ true rest = (λ has. (let is = (run_at (suc k) lines k has).is in absurd (omega (arith, is))), rest)
    differ false rest = rest

-- where each run line but the first one owns a record, there are few run lines
pub few_runs : (lines : List Line)
    → ((number : ℕ) (line : Planned) → slice_get (plan_lines lines) (suc number) ≡ Some line → line.is_run ≡ true → (r : Recorded) × Contains (record_lines lines) r × (r.owner ≡ suc number))
    → length (run_lines lines) ≤ 1 + length (records_in lines)
few_runs lines owns =
    let numbers = run_numbers 0 (plan_lines lines) in
    let owners = map (λ (r : Recorded). r.owner) (record_lines lines) in
    let most = no_more_than numbers (0 ∷ owners) (numbers_differ 0 (plan_lines lines)) (λ number has. found number (run_at 0 (plan_lines lines) number has)) in
    let long = numbers_long 0 (plan_lines lines) in
    let owned = length-map (record_lines lines) (λ (r : Recorded). r.owner) in
    let items = length-map (record_lines lines) (λ (r : Recorded). r.item) in
    omega (arith, most, long, owned, items)
  where
    found : (number : ℕ) → RunAt 0 number (plan_lines lines) → Contains (0 ∷ map (λ (r : Recorded). r.owner) (record_lines lines)) number
    found number at = by_place at.place at.is at.there
      where
        by_place : (place : ℕ) → number ≡ 0 + place → slice_get (plan_lines lines) place ≡ Some at.line → Contains (0 ∷ map (λ (r : Recorded). r.owner) (record_lines lines)) number
        by_place zero is there = subst (Contains (0 ∷ map (λ (r : Recorded). r.owner) (record_lines lines))) (sym (is ∙ omega arith)) (in_head 0 _)
        by_place (suc j) is there =
            let own = owns j at.line there at.is_run in
            subst (Contains (0 ∷ map (λ (r : Recorded). r.owner) (record_lines lines))) (own.2 ∙ sym (is ∙ omega arith))
            (in_tail own.0.owner 0 _ (in_map (λ (r : Recorded). r.owner) own.0 (record_lines lines) own.1))

module _ (gives : Gives) (runs : Runs) (choices : Choices) (lawful : AreLawful gives runs) (fitting : AreChoices gives choices)
    (fuel : ℕ) (lines : List Line) (valid : IsValid runs choices fuel true lines) (known : List Record) (all : HaveRecordsOfMet runs choices fuel known) where
  -- each record is that of a met plan
  known_records : AreAmong (records_in lines) known
  known_records item has =
      let placed = get_in (records_in lines) item has in
      let by = shown_at lines valid.owners (names gives runs choices lawful fitting fuel true lines valid) placed.0 item placed.1 in
      let there = in_get (plan_lines lines) by.recorded.owner by.line by.there in
      let here = (spelled gives runs choices lawful fitting fuel true lines valid by.line there).1 in
      let met = line_met gives runs choices lawful fitting fuel true lines valid by.line there in
      let same = same_Some here.went met.went (sym here.done ∙ met.done) in
      all by.line.plan met item (in_same item _ _ (here.records ∙ ap (λ (w : Went). w.records) same) by.shown)

  pub valid_few : length (run_lines lines) ≤ 1 + length known
  valid_few =
      let few = few_runs lines (valid.reduced refl) in
      let most = no_more_than (records_in lines) known valid.records known_records in
      omega (arith, few, most)
