-- The plan of a line whose parent stands above it.
use Rattle.std.proofs.Common.{◌≡◌, ℕ, Option, Some, None, List, [], ◌∷◌, ◌++◌, length, slice_get, refl, sym, ap, ◌∙◌, arith, append_assoc, append-nil, length-append, ◌+◌}
use Rattle.std.specs.Prelude.{option_map, option_and_then, fold}
use Rattle.std.specs.List.{last_or}
use Rattle.std.proofs.lemmas.List.Elements.{filter_map-append}
use Rattle.std.proofs.lemmas.List.Sums.{fold-append}
use Rattle.fb_base.specs.declared.reply.Reply.{Reply}
use Rattle.fb_index.specs.Entry.{Occurrence}
use Rattle.fb_index.specs.declared.fault.Fault.{Fault}
use Rattle.fb_report.specs.declared.line.Line.{Line}
use Rattle.fb_functest.specs.PlanLines.{PlanLine, plan_line_in, plan_lines, earlier_plan, with_fault, next_plan, with_next_plan, plans_of}
use Rattle.fb_functest.specs.ReportLines.{last_fault}
use Rattle.fb_valid.specs.Trees.{plan_below}
use Rattle.fb_valid.proofs.Lists.{made_some, get_next}

-- later lines leave the plans of those before them
plans_stay : (plans : List (Option (List Fault))) (lines : List PlanLine) → (more : List (Option (List Fault))) × (fold with_next_plan plans lines ≡ plans ++ more)
plans_stay plans [] = ([], sym (append-nil plans))
plans_stay plans (line ∷ lines) =
    let rest = plans_stay (with_next_plan plans line) lines in
    (next_plan plans line ∷ rest.0, rest.1 ∙ append_assoc plans (next_plan plans line ∷ []) rest.0)

plans_long : (plans : List (Option (List Fault))) (lines : List PlanLine) → length (fold with_next_plan plans lines) ≡ length plans + length lines
plans_long plans [] = omega arith
plans_long plans (line ∷ lines) =
    let rest = plans_long (with_next_plan plans line) lines in
    let one = length-append plans (next_plan plans line ∷ []) in
    omega (arith, rest, one)

-- the plan of a line, among those of all lines
pub plan_at : (before : List Line) (stands : Line) (between : List Line) (parent : PlanLine) → plan_line_in stands ≡ Some parent
    → slice_get (plans_of (plan_lines (before ++ stands ∷ between))) (length (plan_lines before)) ≡ Some (plan_below before parent)
plan_at before stands between parent is =
    let lines : plan_lines (before ++ stands ∷ between) ≡ plan_lines before ++ parent ∷ plan_lines between =
    filter_map-append plan_line_in before (stands ∷ between) ∙ ap (λ rest. plan_lines before ++ rest) (made_some plan_line_in stands between parent is) in
    let more = plans_stay (plans_of (plan_lines before) ++ plan_below before parent ∷ []) (plan_lines between) in
    let whole : plans_of (plan_lines (before ++ stands ∷ between)) ≡ plans_of (plan_lines before) ++ plan_below before parent ∷ more.0 =
    ap plans_of lines ∙ fold-append with_next_plan [] (plan_lines before) (parent ∷ plan_lines between)
    ∙ more.1 ∙ append_assoc (plans_of (plan_lines before)) (plan_below before parent ∷ []) more.0 in
    let long : length (plans_of (plan_lines before)) ≡ length (plan_lines before) = plans_long [] (plan_lines before) ∙ omega arith in
    ap (λ plans. slice_get plans (length (plan_lines before))) whole
    ∙ ap (slice_get (plans_of (plan_lines before) ++ plan_below before parent ∷ more.0)) (sym long)
    ∙ get_next (plans_of (plan_lines before)) more.0 (plan_below before parent)

-- what it is where that of its parent is told
next_told : (plans : List (Option (List Fault))) (line : PlanLine) (place : ℕ) (plan : List Fault) (fault : List Occurrence × Reply)
    → line.parent ≡ Some place → slice_get plans place ≡ Some (Some plan) → line.fault ≡ Some fault → next_plan plans line ≡ Some (with_fault plan fault)
next_told [] line place plan fault named there has = absurd (cc)
next_told (first ∷ plans) line place plan fault named there has =
    made (first ∷ plans) line.parent place plan line.fault fault named there has
  where
    made : (plans : List (Option (List Fault))) (parent : Option ℕ) (place : ℕ) (plan : List Fault) (o : Option (List Occurrence × Reply)) (fault : List Occurrence × Reply)
        → parent ≡ Some place → slice_get plans place ≡ Some (Some plan) → o ≡ Some fault
        → option_and_then (λ plan. option_map (with_fault plan) o) (option_and_then (earlier_plan plans) parent) ≡ Some (with_fault plan fault)
    made plans parent place plan o fault named there has = rw named (rw there (rw has))

pub child_plan : (above before : List Line) (stands : Line) (between : List Line) (parent line : PlanLine) (plan : List Fault) (fault : List Occurrence × Reply)
    → above ≡ before ++ stands ∷ between → plan_line_in stands ≡ Some parent → line.parent ≡ Some (length (plan_lines before)) → plan_below before parent ≡ Some plan
    → line.fault ≡ Some fault → plan_below above line ≡ Some (with_fault plan fault)
child_plan above before stands between parent line plan fault cut is named told has =
    next_told (plans_of (plan_lines above)) line (length (plan_lines before)) plan fault named
    (ap (λ lines. slice_get (plans_of (plan_lines lines)) (length (plan_lines before))) cut ∙ plan_at before stands between parent is ∙ ap Some told) has

-- the last fault of a longer plan
last_push : {A : Type 0} (o : Option A) (xs : List A) (x : A) → last_or o (xs ++ x ∷ []) ≡ Some x
last_push o [] x = refl
last_push o (y ∷ xs) x = last_push (Some y) xs x

pub last_added : (plan : List Fault) (fault : List Occurrence × Reply) → last_fault (with_fault plan fault) ≡ Some fault
last_added plan fault = ap (option_map (λ fault. (fault.index, fault.reply))) (last_push None plan (record { index = fault.0; reply = fault.1 }))

-- without lines above
pub first_plan : (above : List Line) (line : PlanLine) → plan_lines above ≡ [] → plan_below above line ≡ Some []
first_plan above line none = ap (λ lines. next_plan (plans_of lines) line) none
