-- Plan lines among the lines, and their plans.
use Rattle.std.proofs.Common.{◌≡◌, ◌⊎◌, inl, inr, ⊎_elim, ℕ, ◌+◌, ◌<◌, Option, Some, None, List, [], ◌∷◌, ◌++◌, length, slice_get, refl, sym, ap, ◌∙◌, arith, append_assoc, append-nil, length-append}
use Rattle.std.specs.Prelude.{option_map, option_and_then, fold}
use Rattle.std.proofs.lemmas.List.Elements.{filter_map-append}
use Rattle.std.proofs.lemmas.List.Sums.{fold-append}
use Rattle.std.proofs.lemmas.Option.{same_Some}
use Rattle.fb_base.specs.declared.reply.Reply.{Reply}
use Rattle.fb_index.specs.Entry.{Occurrence}
use Rattle.fb_index.specs.declared.fault.Fault.{Fault}
use Rattle.fb_report.specs.declared.line.Line.{Line}
use Rattle.fb_functest.specs.PlanLines.{PlanLine, plan_line_in, plan_lines, earlier_plan, with_fault, next_plan, with_next_plan, plans_of}
use Rattle.fb_valid.specs.Trees.{plan_below, HasLine}
use Rattle.fb_book.proofs.Lists.{made_none, made_some, made_number, get_some, get_within, get_next, last_or_front}

-- ---- lists that are cut twice

-- one list is cut at the same item, or further on
pub data Cuts {A : Type 0} (one : List A) (x : A) (other : List A) (y : A) : Type 0 where
  same_cut : one ≡ other → x ≡ y → Cuts one x other y
  later_cut : (more : List A) → other ≡ one ++ x ∷ more → Cuts one x other y
  earlier_cut : (more : List A) → one ≡ other ++ y ∷ more → Cuts one x other y

pub cuts : {A : Type 0} (one below other behind : List A) (x y : A) → one ++ x ∷ below ≡ other ++ y ∷ behind → Cuts one x other y
cuts [] below [] behind x y is = same_cut refl (let first : x ≡ y = cc in first)
cuts [] below (z ∷ other) behind x y is = later_cut other (ap (λ w. w ∷ other) (let first : z ≡ x = cc in first))
cuts (z ∷ one) below [] behind x y is = earlier_cut one (ap (λ w. w ∷ one) (let first : z ≡ y = cc in first))
cuts (z ∷ one) below (w ∷ other) behind x y is =
    further (let first : z ≡ w = cc in first) (cuts one below other behind x y (let rest : one ++ x ∷ below ≡ other ++ y ∷ behind = cc in rest))
  where
    further : z ≡ w → Cuts one x other y → Cuts (z ∷ one) x (w ∷ other) y
    further first (same_cut lists items) = same_cut (λ i. first i ∷ lists i) items
    further first (later_cut more is) = later_cut more (λ i. sym first i ∷ is i)
    further first (earlier_cut more is) = earlier_cut more (λ i. first i ∷ is i)

-- ---- plans by the lines above

pub plan_lines_skip : (above : List Line) (line : Line) → plan_line_in line ≡ None → plan_lines (above ++ line ∷ []) ≡ plan_lines above
plan_lines_skip above line none =
    filter_map-append plan_line_in above (line ∷ []) ∙ ap (λ rest. plan_lines above ++ rest) (made_none plan_line_in line [] none) ∙ append-nil (plan_lines above)

pub plan_lines_push : (above : List Line) (line : Line) (tells : PlanLine) → plan_line_in line ≡ Some tells → plan_lines (above ++ line ∷ []) ≡ plan_lines above ++ tells ∷ []
plan_lines_push above line tells some =
    filter_map-append plan_line_in above (line ∷ []) ∙ ap (λ rest. plan_lines above ++ rest) (made_some plan_line_in line [] tells some)

-- later lines leave the plans of those before them
plans_stay : (plans : List (Option (List Fault))) (lines : List PlanLine) → (more : List (Option (List Fault))) × (fold with_next_plan plans lines ≡ plans ++ more)
plans_stay plans [] = ([], sym (append-nil plans))
plans_stay plans (line ∷ lines) =
    let rest = plans_stay (with_next_plan plans line) lines in
    (next_plan plans line ∷ rest.0, rest.1 ∙ append_assoc plans (next_plan plans line ∷ []) rest.0)

plans_long : (plans : List (Option (List Fault))) (lines : List PlanLine) → length (fold with_next_plan plans lines) ≡ length plans + length lines
plans_long plans [] = omega arith
plans_long plans (line ∷ lines) =
    let rest = plans_long (with_next_plan plans line) lines in
    let one = length-append plans (next_plan plans line ∷ []) in
    omega (arith, rest, one)

-- the plan of a line, among those of all lines
pub plan_at : (before : List Line) (stands : Line) (between : List Line) (parent : PlanLine) → plan_line_in stands ≡ Some parent
    → slice_get (plans_of (plan_lines (before ++ stands ∷ between))) (length (plan_lines before)) ≡ Some (plan_below before parent)
plan_at before stands between parent is =
    let lines : plan_lines (before ++ stands ∷ between) ≡ plan_lines before ++ parent ∷ plan_lines between =
    filter_map-append plan_line_in before (stands ∷ between) ∙ ap (λ rest. plan_lines before ++ rest) (made_some plan_line_in stands between parent is) in
    let more = plans_stay (plans_of (plan_lines before) ++ plan_below before parent ∷ []) (plan_lines between) in
    let whole : plans_of (plan_lines (before ++ stands ∷ between)) ≡ plans_of (plan_lines before) ++ plan_below before parent ∷ more.0 =
    ap plans_of lines ∙ fold-append with_next_plan [] (plan_lines before) (parent ∷ plan_lines between)
    ∙ more.1 ∙ append_assoc (plans_of (plan_lines before)) (plan_below before parent ∷ []) more.0 in
    let long : length (plans_of (plan_lines before)) ≡ length (plan_lines before) = plans_long [] (plan_lines before) ∙ omega arith in
    ap (λ plans. slice_get plans (length (plan_lines before))) whole
    ∙ ap (slice_get (plans_of (plan_lines before) ++ plan_below before parent ∷ more.0)) (sym long)
    ∙ get_next (plans_of (plan_lines before)) more.0 (plan_below before parent)

-- what it is where that of its parent is told
next_told : (plans : List (Option (List Fault))) (line : PlanLine) (place : ℕ) (plan : List Fault) (fault : List Occurrence × Reply)
    → line.parent ≡ Some place → slice_get plans place ≡ Some (Some plan) → line.fault ≡ Some fault → next_plan plans line ≡ Some (with_fault plan fault)
next_told [] line place plan fault named there has = absurd (cc)
next_told (first ∷ plans) line place plan fault named there has =
    made (first ∷ plans) line.parent place plan line.fault fault named there has
  where
    made : (plans : List (Option (List Fault))) (parent : Option ℕ) (place : ℕ) (plan : List Fault) (o : Option (List Occurrence × Reply)) (fault : List Occurrence × Reply)
        → parent ≡ Some place → slice_get plans place ≡ Some (Some plan) → o ≡ Some fault
        → option_and_then (λ plan. option_map (with_fault plan) o) (option_and_then (earlier_plan plans) parent) ≡ Some (with_fault plan fault)
    made plans parent place plan o fault named there has = rw named (rw there (rw has))

pub child_plan : (above before : List Line) (stands : Line) (between : List Line) (parent line : PlanLine) (plan : List Fault) (fault : List Occurrence × Reply)
    → above ≡ before ++ stands ∷ between → plan_line_in stands ≡ Some parent → line.parent ≡ Some (length (plan_lines before)) → plan_below before parent ≡ Some plan
    → line.fault ≡ Some fault → plan_below above line ≡ Some (with_fault plan fault)
child_plan above before stands between parent line plan fault cut is named told has =
    next_told (plans_of (plan_lines above)) line (length (plan_lines before)) plan fault named
    (ap (λ lines. slice_get (plans_of (plan_lines lines)) (length (plan_lines before))) cut ∙ plan_at before stands between parent is ∙ ap Some told) has

-- without lines above
pub first_plan : (above : List Line) (line : PlanLine) → plan_lines above ≡ [] → plan_below above line ≡ Some []
first_plan above line none = ap (λ lines. next_plan (plans_of lines) line) none

-- ---- a plan line by its number

pub record NumberedAt (lines : List Line) (number : ℕ) : Type 0 where
  pub above : List Line
  pub stands : Line
  pub below : List Line
  pub cut : lines ≡ above ++ stands ∷ below
  pub tells : PlanLine
  pub is : plan_line_in stands ≡ Some tells
  pub number_is : length (plan_lines above) ≡ number

pub numbered : (lines : List Line) (number : ℕ) → number < length (plan_lines lines) → NumberedAt lines number
numbered lines number within =
    let tells = get_some (plan_lines lines) number within in
    let at = made_number plan_line_in lines number tells.0 tells.1 in
    record {
      above = at.2.above;
      stands = at.2.item;
      below = at.2.below;
      cut = at.2.is;
      tells = tells.0;
      is = at.2.makes;
      number_is = ap length at.2.made ∙ at.1;
    }

-- ---- lines with a plan

pub has_line : (lines above : List Line) (stands : Line) (below : List Line) (tells : PlanLine) (plan : List Fault) → lines ≡ above ++ stands ∷ below
    → plan_line_in stands ≡ Some tells → plan_below above tells ≡ Some plan → HasLine lines plan
has_line lines above stands below tells plan cut is told = (
  length (plan_lines above),
  ap (λ ls. earlier_plan (plans_of (plan_lines ls)) (length (plan_lines above))) cut
      ∙ ap (option_and_then (λ plan. plan)) (plan_at above stands below tells is) ∙ told,
)

pub record LineWith (lines : List Line) (plan : List Fault) : Type 0 where
  pub above : List Line
  pub stands : Line
  pub below : List Line
  pub cut : lines ≡ above ++ stands ∷ below
  pub tells : PlanLine
  pub is : plan_line_in stands ≡ Some tells
  pub plan_is : plan_below above tells ≡ Some plan

earlier_there : (plans : List (Option (List Fault))) (number : ℕ) (plan : List Fault) → earlier_plan plans number ≡ Some plan → slice_get plans number ≡ Some (Some plan)
earlier_there plans number plan is = by (slice_get plans number) is where
  by : (o : Option (Option (List Fault))) → option_and_then (λ plan. plan) o ≡ Some plan → o ≡ Some (Some plan)
  by None is = absurd (cc)
  by (Some found) is = ap Some is

pub line_with : (lines : List Line) (plan : List Fault) → HasLine lines plan → LineWith lines plan
line_with lines plan (number, is) =
    let there = earlier_there (plans_of (plan_lines lines)) number plan is in
    let within = get_within (plans_of (plan_lines lines)) number (Some plan) there in
    let long = plans_long [] (plan_lines lines) in
    let at = numbered lines number (omega (arith, within, long)) in
    record {
      above = at.above;
      stands = at.stands;
      below = at.below;
      cut = at.cut;
      tells = at.tells;
      is = at.is;
      plan_is =
          same_Some (plan_below at.above at.tells) (Some plan)
          (sym (plan_at at.above at.stands at.below at.tells at.is)
          ∙ ap (λ ls. slice_get (plans_of (plan_lines ls)) (length (plan_lines at.above))) (sym at.cut)
          ∙ ap (slice_get (plans_of (plan_lines lines))) at.number_is ∙ there);
    }

pub has_line_left : (lines more : List Line) (plan : List Fault) → HasLine lines plan → HasLine (lines ++ more) plan
has_line_left lines more plan has =
    let at = line_with lines plan has in
    has_line (lines ++ more) at.above at.stands (at.below ++ more) at.tells plan
    (ap (λ ls. ls ++ more) at.cut ∙ append_assoc at.above (at.stands ∷ at.below) more) at.is at.plan_is

-- of one line more: it is the last line that has the plan, or one of the others
pub last_line_cases : (lines : List Line) (line : Line) (plan : List Fault) → HasLine (lines ++ line ∷ []) plan
    → HasLine lines plan ⊎ ((tells : PlanLine) × (plan_line_in line ≡ Some tells) × (plan_below lines tells ≡ Some plan))
last_line_cases lines line plan has =
    let at = line_with (lines ++ line ∷ []) plan has in
    ⊎_elim (λ last. inr (at.tells, ap plan_line_in last.1 ∙ at.is, ap (λ up. plan_below up at.tells) last.0 ∙ at.plan_is))
    (λ early. inl (has_line lines at.above at.stands early.0 at.tells plan early.1 at.is at.plan_is))
    (last_or_front lines at.above at.below line at.stands at.cut)

-- without plan lines no plan has a line
pub no_line : (lines : List Line) (plan : List Fault) → plan_lines lines ≡ [] → ¬ (HasLine lines plan)
no_line lines plan none (number, is) =
    let within = get_within (plans_of (plan_lines lines)) number (Some plan) (earlier_there (plans_of (plan_lines lines)) number plan is) in
    let long = plans_long [] (plan_lines lines) in
    let empty = ap length none in
    absurd (omega (arith, within, long, empty))
