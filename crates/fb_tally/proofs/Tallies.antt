-- Tallies of lines: one line more, and what they tell of its place.
use Rattle.std.proofs.Common.{◌≡◌, ℕ, zero, suc, ◌+◌, ◌-◌, ◌<◌, ◌≤◌, Bool, true, false, not, cond, ◌&&◌, ◌||◌, Option, Some, None, is_none, List, [], ◌∷◌, ◌++◌, filter, length, Contains, refl, sym, ap, ◌∙◌, subst, arith, append_assoc}
use Rattle.std.specs.Bool.{Decides as Tells}
use Rattle.std.proofs.lemmas.Bool.Decides.{Decides-eqb, Decides-ltb, Decides-and, Decides-like}
use Rattle.std.proofs.lemmas.List.{length_push, length-append}
use Rattle.std.proofs.lemmas.List.Elements.{filter-append, Contains-append_right}
use Rattle.fb_index.specs.declared.fault.Fault.{Fault}
use Rattle.fb_campaign.specs.Reports.{has_passed}
use Rattle.fb_report.specs.declared.line.Cause.{Cause}
use Rattle.fb_report.specs.declared.line.Cause.TheVariants.{Completed, Fuel, Budget}
use Rattle.fb_report.specs.declared.line.Line.{Line}
use Rattle.fb_report.specs.declared.line.Line.TheVariants.{Header, Inv, Plan, End}
use Rattle.fb_functest.specs.PlanLines.{PlanLine, plan_line_in, plan_lines}
use Rattle.fb_valid.specs.Lines.{owner_in, owners_told, is_end, run_lines, pruned_lines, failed_lines, end_below}
use Rattle.fb_valid.specs.Rules.{IsNumbered, IsInPlace}
use Rattle.fb_valid.specs.Valid.{OfEachLine, IsEnded}
use Rattle.fb_tally.specs.Decisions.{Decides}
use Rattle.fb_tally.specs.Tallied.{Tallied, has_end, tally_of, is_completed, are_totals, is_numbered, one_if, with_line}
use Rattle.fb_tally.proofs.Lists.{decided, made_none, made_some}

-- ---- one line more

end_push : (lines : List Line) (line : Line) → has_end (lines ++ line ∷ []) ≡ (has_end lines || is_end line)
end_push [] line = or_false (is_end line)
  where
    or_false : (b : Bool) → (b || false) ≡ b
    or_false true = refl
    or_false false = refl
end_push (first ∷ lines) line = ap (λ b. is_end first || b) (end_push lines line) ∙ or_assoc (is_end first) (has_end lines) (is_end line)
  where
    or_assoc : (a b c : Bool) → (a || (b || c)) ≡ ((a || b) || c)
    or_assoc true b c = refl
    or_assoc false b c = refl

no_end_more : (lines : List Line) (line : Line) → is_end line ≡ false → has_end lines ≡ has_end (lines ++ line ∷ [])
no_end_more lines line none = by (has_end lines) ∙ ap (λ b. has_end lines || b) (sym none) ∙ sym (end_push lines line)
  where
    by : (b : Bool) → b ≡ (b || false)
    by true = refl
    by false = refl

pass_last : (p : PlanLine → Bool) (told : PlanLine) (b : Bool) → p told ≡ b → one_if b ≡ length (filter p (told ∷ []))
pass_last p told true is = rw is refl
pass_last p told false is = rw is refl

-- a plan line more
passed_more : (p : PlanLine → Bool) (above : List PlanLine) (told : PlanLine) → length (filter p above) + one_if (p told) ≡ length (filter p (above ++ told ∷ []))
passed_more p above told =
    ap (λ n. length (filter p above) + n) (pass_last p told (p told) refl) ∙ sym (length-append (filter p above) (filter p (told ∷ [])))
    ∙ ap length (sym (filter-append p above (told ∷ [])))

-- what the lines tell, with one line more
same_tally : (version : ℕ) (lines : List Line) (plans : List PlanLine) (owners : List ℕ) (ended : Bool) → plans ≡ plan_lines lines → owners ≡ owners_told lines → ended ≡ has_end lines
    → ◌≡◌ {A = Tallied} (record {
      version = version;
      plans = length plans;
      run = length (filter (λ line. line.run) plans);
      failed = length (filter (λ line. not (has_passed line.outcome)) plans);
      records = length owners;
      ended = ended;
    }) (tally_of version lines)
same_tally version lines plans owners ended plans_same owners_same ended_same = λ i. record {
  version = version;
  plans = length (plans_same i);
  run = length (filter (λ line. line.run) (plans_same i));
  failed = length (filter (λ line. not (has_passed line.outcome)) (plans_same i));
  records = length (owners_same i);
  ended = ended_same i;
}

pub tally_push : (version : ℕ) (lines : List Line) (line : Line) → with_line (tally_of version lines) line ≡ tally_of version (lines ++ line ∷ [])
unfolding with_line
tally_push version lines (Header other fuel reduction) =
    let line = Header other fuel reduction in
    same_tally version (lines ++ line ∷ []) (plan_lines lines) (owners_told lines) (has_end lines)
    (sym (made_none plan_line_in lines line refl)) (sym (made_none owner_in lines line refl)) (no_end_more lines line refl)
tally_push version lines (Inv id owner made) =
    let line = Inv id owner made in
    (λ i. record {
      version = version;
      plans = length (plan_lines lines);
      run = length (run_lines lines);
      failed = length (failed_lines lines);
      records = sym (length_push (owners_told lines) owner) i;
      ended = has_end lines;
    })
    ∙ same_tally version (lines ++ line ∷ []) (plan_lines lines) (owners_told lines ++ owner ∷ []) (has_end lines)
    (sym (made_none plan_line_in lines line refl)) (sym (made_some owner_in lines line owner refl)) (no_end_more lines line refl)
tally_push version lines (Plan other id parent fault run uses outcome) =
    let line = Plan other id parent fault run uses outcome in
    let told : PlanLine = record { parent = parent; fault = fault; run = run; uses = uses; outcome = outcome } in
    (λ i. record {
      version = version;
      plans = sym (length_push (plan_lines lines) told) i;
      run = passed_more (λ line. line.run) (plan_lines lines) told i;
      failed = passed_more (λ line. not (has_passed line.outcome)) (plan_lines lines) told i;
      records = length (owners_told lines);
      ended = has_end lines;
    })
    ∙ same_tally version (lines ++ line ∷ []) (plan_lines lines ++ told ∷ []) (owners_told lines) (has_end lines)
    (sym (made_some plan_line_in lines line told refl)) (sym (made_none owner_in lines line refl)) (no_end_more lines line refl)
tally_push version lines (End cause plans run pruned failed invs stopped) =
    let line = End cause plans run pruned failed invs stopped in
    same_tally version (lines ++ line ∷ []) (plan_lines lines) (owners_told lines) true
    (sym (made_none plan_line_in lines line refl)) (sym (made_none owner_in lines line refl)) (sym (end_push lines line ∙ or_true (has_end lines)))
  where
    or_true : (b : Bool) → (b || true) ≡ true
    or_true true = refl
    or_true false = refl

-- ---- end lines

abbrev HasEnd : List Line → Type 0
HasEnd lines = (above : List Line) × (line : Line) × (below : List Line) × (lines ≡ above ++ line ∷ below) × (is_end line ≡ true)

-- an end line, where there is one
some_end : (lines : List Line) → has_end lines ≡ true → HasEnd lines
some_end [] has = absurd (cc)
some_end (first ∷ lines) has = by (is_end first) refl has (λ later. some_end lines later)
  where
    by : (b : Bool) → is_end first ≡ b → (b || has_end lines) ≡ true → (has_end lines ≡ true → HasEnd lines) → HasEnd (first ∷ lines)
    by true is has rest_has = ([], first, lines, refl, is)
    by false is has rest_has =
        let rest = rest_has has in
        (first ∷ rest.0, rest.1, rest.2, ap (λ ls. first ∷ ls) rest.3, rest.4)

no_end : (lines : List Line) → has_end lines ≡ false → (line : Line) → Contains lines line → is_end line ≡ false
no_end [] has line (k, within, is) = absurd (omega (arith, within))
no_end (first ∷ lines) has line there = by (is_end first) refl has there (λ none. no_end lines none line)
  where
    by : (b : Bool) → is_end first ≡ b → (b || has_end lines) ≡ false → Contains (first ∷ lines) line → (has_end lines ≡ false → Contains lines line → is_end line ≡ false) → is_end line ≡ false
    by true is has there rest_none = absurd (cc)
    by false is has (zero, within, same) rest_none = ap is_end (sym same) ∙ is
    by false is has (suc k, within, same) rest_none = rest_none has (k, omega (arith, within), same)

in_middle : (above below : List Line) (line : Line) → Contains (above ++ line ∷ below) line
in_middle above below line = Contains-append_right above (line ∷ below) line (0, omega arith, refl)

is_last : (version : ℕ) (lines above below : List Line) (line : Line) → OfEachLine (IsInPlace version) lines → lines ≡ above ++ line ∷ below → is_end line ≡ true → IsEnded lines
is_last version lines above [] line in_place cut ends = record { body = above; last = line; cut = cut; ends = ends }
is_last version lines above (next ∷ below) line in_place cut ends =
    let placed = in_place (above ++ line ∷ []) next below (cut ∙ sym (append_assoc above (line ∷ []) (next ∷ below))) in
    let other : is_end line ≡ false = placed.not_behind_end line (in_middle above [] line) in
    absurd (let both : true ≡ false = sym ends ∙ other in cc)

-- lines in their places end where one of them is an end line
pub ends_by : (version : ℕ) (lines : List Line) → OfEachLine (IsInPlace version) lines → Decides (IsEnded lines) (has_end lines)
ends_by version lines in_place = decided (has_end lines) (ended, has)
  where
    ended : has_end lines ≡ true → IsEnded lines
    ended is = (let found = some_end lines is in is_last version lines found.0 found.2 found.1 in_place found.3 found.4)

    or_true : (a b : Bool) → b ≡ true → (a || b) ≡ true
    or_true true b is = refl
    or_true false b is = is

    has : IsEnded lines → has_end lines ≡ true
    has is = ap has_end is.cut ∙ end_push is.body is.last ∙ or_true (has_end is.body) (is_end is.last) is.ends

-- ---- places

run_or_pruned : (told : List PlanLine) → length (filter (λ line. line.run) told) + length (filter (λ line. not line.run) told) ≡ length told
run_or_pruned [] = refl
run_or_pruned (first ∷ told) = by first.run (run_or_pruned told)
  where
    by : (b : Bool) → length (filter (λ line. line.run) told) + length (filter (λ line. not line.run) told) ≡ length told
        → length (cond b (first ∷ filter (λ line. line.run) told) (filter (λ line. line.run) told))
        + length (cond (not b) (first ∷ filter (λ line. not line.run) told) (filter (λ line. not line.run) told)) ≡ suc (length told)
    by true rest = omega (arith, rest)
    by false rest = omega (arith, rest)

pruned_is : (lines : List Line) → length (plan_lines lines) - length (run_lines lines) ≡ length (pruned_lines lines)
pruned_is lines = (let both = run_or_pruned (plan_lines lines) in omega (arith, both))

abbrev AreTotals : List Line → ℕ → ℕ → ℕ → ℕ → ℕ → Type 0
AreTotals lines plans run pruned failed invs =
    (((((0 < length (plan_lines lines)) × (plans ≡ length (plan_lines lines))) × (run ≡ length (run_lines lines)))
    × (pruned ≡ length (plan_lines lines) - length (run_lines lines))) × (failed ≡ length (failed_lines lines))) × (invs ≡ length (owners_told lines))

totals_tell : (version : ℕ) (lines : List Line) (plans run pruned failed invs : ℕ)
    → Tells (are_totals (tally_of version lines) plans run pruned failed invs) (AreTotals lines plans run pruned failed invs)
totals_tell version lines plans run pruned failed invs =
    Decides-and _ _ (Decides-and _ _ (Decides-and _ _ (Decides-and _ _ (Decides-and _ _ (Decides-ltb 0 (length (plan_lines lines)))
    (Decides-eqb plans (length (plan_lines lines)))) (Decides-eqb run (length (run_lines lines))))
    (Decides-eqb pruned (length (plan_lines lines) - length (run_lines lines)))) (Decides-eqb failed (length (failed_lines lines))))
    (Decides-eqb invs (length (owners_told lines)))

end_tells : (version : ℕ) (lines : List Line) (cause : Cause) (plans run pruned failed invs : ℕ) (stopped : Option (List Fault))
    → Tells (is_completed cause && is_none stopped && are_totals (tally_of version lines) plans run pruned failed invs)
    (IsNumbered version lines (End cause plans run pruned failed invs stopped))
end_tells version lines Fuel plans run pruned failed invs stopped = ((λ e. absurd (cc)), λ numbered. absurd (let is = numbered.1 in cc))
end_tells version lines Budget plans run pruned failed invs stopped = ((λ e. absurd (cc)), λ numbered. absurd (let is = numbered.1 in cc))
end_tells version lines Completed plans run pruned failed invs (Some plan) = ((λ e. absurd (cc)), λ numbered. absurd (let is = numbered.1 in cc))
end_tells version lines Completed plans run pruned failed invs None =
    Decides-like _ (λ totals. (totals.0.0.0.0.0, λ i. End Completed (totals.0.0.0.0.1 i) (totals.0.0.0.1 i) ((totals.0.0.1 ∙ pruned_is lines) i) (totals.0.1 i) (totals.1 i) None))
    (λ numbered. told numbered.0 numbered.1) (totals_tell version lines plans run pruned failed invs)
  where
    told : 0 < length (plan_lines lines) → End Completed plans run pruned failed invs None ≡ end_below lines → AreTotals lines plans run pruned failed invs
    told some is = (
      (
        (
          (
            (some, let same : plans ≡ length (plan_lines lines) = cc in same),
            let same : run ≡ length (run_lines lines) = cc in same,
          ),
          (let same : pruned ≡ length (pruned_lines lines) = cc in same) ∙ sym (pruned_is lines),
        ),
        let same : failed ≡ length (failed_lines lines) = cc in same,
      ),
      let same : invs ≡ length (owners_told lines) = cc in same,
    )

numbered_tells : (version : ℕ) (lines : List Line) (line : Line) → Tells (is_numbered (tally_of version lines) line) (IsNumbered version lines line)
unfolding is_numbered
numbered_tells version lines (Header other fuel reduction) = ((λ e. absurd (cc)), λ numbered. absurd numbered)
numbered_tells version lines (Inv id owner made) = Decides-eqb id (length (owners_told lines))
numbered_tells version lines (Plan other id parent fault run uses outcome) = Decides-and _ _ (Decides-eqb other version) (Decides-eqb id (length (plan_lines lines)))
numbered_tells version lines (End cause plans run pruned failed invs stopped) = end_tells version lines cause plans run pruned failed invs stopped

-- no line is in its place behind an end line
pub none_behind : (version : ℕ) (lines : List Line) (line : Line) → has_end lines ≡ true → ¬ (IsInPlace version lines line)
none_behind version lines line has placed =
    let found = some_end lines has in
    let other : is_end found.1 ≡ false = placed.not_behind_end found.1 (subst (λ ls. Contains ls found.1) (sym found.3) (in_middle found.0 found.2 found.1)) in
    absurd (let both : true ≡ false = sym found.4 ∙ other in cc)

-- else its number tells
pub place_tells : (version : ℕ) (lines : List Line) (line : Line) → has_end lines ≡ false → Decides (IsInPlace version lines line) (is_numbered (tally_of version lines) line)
place_tells version lines line none =
    decided (is_numbered (tally_of version lines) line)
    (Decides-like _ (λ numbered. record { not_behind_end = no_end lines none; numbered = numbered }) (λ placed. placed.numbered) (numbered_tells version lines line))

-- ---- room

pub tallied_within : (lines : List Line) → length (plan_lines lines) + length (owners_told lines) ≤ length lines
tallied_within [] = omega arith
tallied_within (Header version fuel reduction ∷ lines) = (let rest = tallied_within lines in omega (arith, rest))
tallied_within (Inv id owner made ∷ lines) = (let rest = tallied_within lines in omega (arith, rest))
tallied_within (Plan version id parent fault run uses outcome ∷ lines) = (let rest = tallied_within lines in omega (arith, rest))
tallied_within (End cause plans run pruned failed invs stopped ∷ lines) = (let rest = tallied_within lines in omega (arith, rest))

pub by_one : (tally : Tallied) (line : Line) → (with_line tally line).plans + (with_line tally line).records ≤ tally.plans + tally.records + 1
unfolding with_line
by_one tally (Header version fuel reduction) = omega arith
by_one tally (Inv id owner made) = omega arith
by_one tally (Plan version id parent fault run uses outcome) = omega arith
by_one tally (End cause plans run pruned failed invs stopped) = omega arith
