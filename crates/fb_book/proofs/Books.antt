-- The book of one plan line more.
use Rattle.std.proofs.Common.{◌≡◌, ◌⊎◌, inl, inr, ⊎_elim, ℕ, ◌<◌, Bool, true, false, cond, Option, Some, None, List, [], ◌∷◌, ◌++◌, map, length, slice_get, Contains, refl, sym, ap, ◌∙◌, subst, arith, length-append}
use Rattle.std.specs.Option.{option_map_or}
use Rattle.std.specs.List.{last_or}
use Rattle.std.proofs.lemmas.Option.{same_Some}
use Rattle.std.proofs.lemmas.List.Elements.{Contains-push, Contains-push_cases, Contains-append_left}
use Rattle.fb_base.specs.declared.reply.Reply.{Reply}
use Rattle.fb_index.specs.Entry.{Occurrence}
use Rattle.fb_index.specs.Index.{same_index}
use Rattle.fb_index.specs.declared.fault.Fault.{Fault}
use Rattle.fb_syntax.specs.Trees.{ServicesTree, TestTree}
use Rattle.fb_tree.specs.Calls.{visits_of}
use Rattle.fb_tree.specs.declared.visit.Visit.{Visit}
use Rattle.fb_campaign.specs.Plans.{begun_after, begun_after_plan, between_services}
use Rattle.fb_campaign.specs.Runs.{Choices, Gives, AreChoices, AreDistinct, AreLawful, is_between_services}
use Rattle.fb_meaning.specs.Each.{HoldsOfEach}
use Rattle.fb_meaning.specs.Records.{IsTrueRecord}
use Rattle.fb_meaning.specs.Spelling.{SpellsRun, SpelledIsRun, OneIsSpelled}
use Rattle.fb_report.specs.declared.line.Line.{Line}
use Rattle.fb_functest.specs.PlanLines.{PlanLine, plan_line_in, plan_lines, with_fault}
use Rattle.fb_functest.specs.Runs.{went_of, went_if_done, runs_of, gives_of}
use Rattle.fb_valid.specs.Lines.{records_told}
use Rattle.fb_valid.specs.Rules.{OfPlan, HasParent}
use Rattle.fb_valid.specs.Trees.{plan_below, IsSpelled, HasLine}
use Rattle.fb_valid.specs.Valid.{OfEachLine}
use Rattle.fb_book.specs.declared.call.Call.{Call}
use Rattle.fb_book.specs.declared.child.Child.{Child}
use Rattle.fb_book.specs.declared.row.Row.{Row}
use Rattle.fb_book.specs.Books.{BookOf, child_of, with_told, with_row}
use Rattle.fb_book.specs.Calls.{called, calls_for}
use Rattle.fb_book.specs.Children.{is_told}
use Rattle.fb_book.specs.Kept.{IsChildOf, IsRowOf, HasRow, IsBookOf}
use Rattle.fb_book.specs.Laws.{BooksGrow}
use Rattle.fb_book.proofs.Lists.{last_or_front, get_left, get_front, get_within, get_next, get_cases, distinct_filter}
use Rattle.fb_book.proofs.Lines.{plan_lines_push, child_plan as told_plan, first_plan, has_line, has_line_left, last_line_cases, LineWith, line_with}
use Rattle.fb_book.proofs.Sameness.{told_in}
use Rattle.fb_book.proofs.Rows.{row_at, one_number}
use Rattle.fb_book.proofs.Extending.{Found, found, one_child, same_longer}
use Rattle.fb_book.proofs.Parents.{plan_told, is_found}

-- ---- calls that differ

abbrev index_of_visit : Visit → List Occurrence
index_of_visit visit = visit.index

after_one : (b : Bool) (visits later : List Visit) → AreDistinct (map index_of_visit visits) → AreDistinct (map index_of_visit later)
    → AreDistinct (map index_of_visit (cond b visits later))
after_one true visits later here there = here
after_one false visits later here there = there

distinct_after : (index : List Occurrence) (visits : List Visit) → AreDistinct (map index_of_visit visits) → AreDistinct (map index_of_visit (begun_after index visits))
distinct_after index [] all = all
distinct_after index (visit ∷ visits) all = after_one (same_index visit.index index) visits (begun_after index visits) all.1 (distinct_after index visits all.1)

distinct_after_plan : (plan : List Fault) (visits : List Visit) → AreDistinct (map index_of_visit visits) → AreDistinct (map index_of_visit (begun_after_plan plan visits))
distinct_after_plan plan visits all = by (last_or None plan) where
  by : (last : Option Fault) → AreDistinct (map index_of_visit (option_map_or (λ (fault : Fault). begun_after fault.index visits) last visits))
  by None = all
  by (Some fault) = distinct_after fault.index visits all

indexes_called : (visits : List Visit) → map (λ (call : Call). call.index) (map called visits) ≡ map index_of_visit visits
indexes_called [] = refl
indexes_called (visit ∷ visits) = ap (λ rest. visit.index ∷ rest) (indexes_called visits)

distinct_calls : (plan : List Fault) (visits : List Visit) → AreDistinct (map index_of_visit visits) → AreDistinct (map (λ (call : Call). call.index) (calls_for plan visits))
distinct_calls plan visits all =
    subst AreDistinct (sym (indexes_called (between_services (begun_after_plan plan visits))))
    (distinct_filter index_of_visit (λ visit. is_between_services visit.index) (begun_after_plan plan visits) (distinct_after_plan plan visits all))

-- ---- extensions that are told

abbrev told_or_this : List Child → Option Child → Child → Type 0
told_or_this told o child = Contains told child ⊎ (o ≡ Some child)

told_cases : (told : List Child) (o : Option Child) (child : Child) → Contains (with_told told o) child → told_or_this told o child
told_cases told None child has = inl has
told_cases told (Some this) child has = by (is_told told this) has where
  by : (b : Bool) → Contains (cond b told (told ++ this ∷ [])) child → told_or_this told (Some this) child
  by true has = inl has
  by false has = ⊎_elim (λ there. inl there) (λ last. inr (ap Some last)) (Contains-push_cases told this child has)

still_told : (told : List Child) (o : Option Child) (child : Child) → Contains told child → Contains (with_told told o) child
still_told told None child has = has
still_told told (Some this) child has = by (is_told told this) where
  by : (b : Bool) → Contains (cond b told (told ++ this ∷ [])) child
  by true = has
  by false = Contains-append_left told (this ∷ []) child has

now_told : (told : List Child) (o : Option Child) (child : Child) → o ≡ Some child → Contains (with_told told o) child
now_told told o child is = subst (λ o. Contains (with_told told o) child) (sym is) (by (is_told told child) refl) where
  by : (b : Bool) → is_told told child ≡ b → Contains (cond b told (told ++ child ∷ [])) child
  by true known = told_in told child known
  by false fresh = Contains-push told child

-- ---- what holds of each plan line

each_grows : (Keeps : List Line → PlanLine → Type 0) (lines : List Line) (line : Line) (tells : PlanLine) → plan_line_in line ≡ Some tells → OfEachLine (OfPlan Keeps) lines
    → Keeps lines tells → OfEachLine (OfPlan Keeps) (lines ++ line ∷ [])
each_grows Keeps lines line tells is each keeps above stands below cut told of =
    ⊎_elim (λ last. (
    let same : tells ≡ told = same_Some tells told (sym is ∙ ap plan_line_in last.1 ∙ of) in
    subst (λ up. Keeps up told) last.0 (subst (Keeps lines) same keeps)))
    (λ early. each above stands early.0 early.1 told of)
    (last_or_front lines above below line stands cut)

-- an extension is of one row, call and reply
one_extension : (choices : Choices) (rows : List Row) (child : Child) (row another : Row) (call call_too : Call) (given given_too : Reply) → IsChildOf rows choices child row call given
    → IsChildOf rows choices child another call_too given_too → with_fault row.plan (call.index, given) ≡ with_fault another.plan (call_too.index, given_too)
one_extension choices rows child row another call call_too given given_too is too =
    let rows_are : row ≡ another = same_Some row another (sym is.parent ∙ too.parent) in
    let calls_are : call ≡ call_too = same_Some call call_too (sym is.there ∙ ap (λ (r : Row). slice_get r.calls child.call) rows_are ∙ too.there) in
    let replies_are : given ≡ given_too = same_Some given given_too (sym is.chosen ∙ ap (λ (c : Call). slice_get (choices c.callee) child.choice) calls_are ∙ too.chosen) in
    λ i. with_fault ((rows_are i).plan) ((calls_are i).index, replies_are i)

no_longer : {A : Type 0} (plan : List Fault) (fault : List Occurrence × Reply) → plan ≡ with_fault plan fault → A
no_longer plan fault is =
    let long = ap length is ∙ length-append plan (record { index = fault.0; reply = fault.1 } ∷ []) in
    absurd (omega (arith, long))

not_empty : {A : Type 0} (plan : List Fault) (fault : List Occurrence × Reply) → [] ≡ with_fault plan fault → A
not_empty plan fault is =
    let long = ap length is ∙ length-append plan (record { index = fault.0; reply = fault.1 } ∷ []) in
    absurd (omega (arith, long))

module _ (run : SpelledIsRun) (one : OneIsSpelled) (lawful : (services : ServicesTree) (test : TestTree) → AreLawful (gives_of services) (runs_of services test)) (gives : Gives) (choices : Choices)
    (chosen : AreChoices gives choices) (book : BookOf) (at : ℕ) (plan : List Fault) (visits : List Visit)
    (services : ServicesTree) (test : TestTree) (fuel : ℕ) (lines : List Line) (line : Line) (tells : PlanLine) (kept : IsBookOf services test choices fuel lines book)
    (is : plan_line_in line ≡ Some tells) (has : HasParent services test choices fuel lines tells) (plan_is : plan_below lines tells ≡ Some plan) (tree : IsSpelled services test fuel lines tells)
    (visits_are : visits_of tree.run ≡ visits) (each_true : HoldsOfEach (IsTrueRecord services fuel) (records_told services lines)) (at_is : at ≡ length lines) where
  abbrev row : Row
  row = record { at = at; plan = plan; calls = calls_for plan visits }

  abbrev rows : List Row
  rows = book.rows ++ row ∷ []

  abbrev this : Option Child
  this = child_of book.rows choices tells.parent tells.fault

  abbrev next : BookOf
  next = with_row book choices at plan tells.parent tells.fault visits

  row_is : IsRowOf services test choices fuel lines tells row
  row_is = record {
    at = at_is;
    tree = tree;
    only = λ other.
        let same : other.plan ≡ tree.plan = same_Some other.plan tree.plan (sym other.has_plan ∙ tree.has_plan) in
        one services test fuel (records_told services lines) tree.plan tells.uses tells.uses other.run tree.run each_true
        (subst (λ p. SpellsRun services test fuel (records_told services lines) p tells.uses other.run) same other.spells) tree.spells;
    plan = same_Some plan tree.plan (sym plan_is ∙ tree.has_plan);
    calls = ap (calls_for plan) (sym visits_are);
    differ =
        let done = run services test fuel (records_told services lines) tree.plan tells.uses tree.run each_true tree.spells in
        let apart = (lawful services test).indexes_differ fuel tree.plan (went_of tree.run) (ap went_if_done done) in
        distinct_calls plan visits (subst (λ vs. AreDistinct (map index_of_visit vs)) visits_are apart);
  }

  has_row : HasRow services test choices fuel rows lines tells
  has_row = record { row = row; there = ap (slice_get rows) (sym kept.counted) ∙ get_next book.rows [] row; is = row_is }

  more_rows : OfEachLine (OfPlan (HasRow services test choices fuel rows)) lines
  more_rows above stands below cut told of =
      let here = kept.rows above stands below cut told of in
      record { row = here.row; there = get_left book.rows (row ∷ []) (length (plan_lines above)) here.row here.there; is = here.is }

  -- ---- extensions of the rows so far, and of this one

  old_child : (child : Child) (r : Row) (call : Call) (given : Reply) → IsChildOf rows choices child r call given → child.parent < length book.rows → IsChildOf book.rows choices child r call given
  old_child child r call given there within = record {
    parent = get_front book.rows (row ∷ []) child.parent r within there.parent;
    there = there.there;
    chosen = there.chosen;
  }

  new_child : (child : Child) (r : Row) (call : Call) (given : Reply) → IsChildOf book.rows choices child r call given → IsChildOf rows choices child r call given
  new_child child r call given there = record { parent = get_left book.rows (row ∷ []) child.parent r there.parent; there = there.there; chosen = there.chosen }

  this_line : HasLine (lines ++ line ∷ []) plan
  this_line = has_line (lines ++ line ∷ []) lines line [] tells plan refl is plan_is

  -- its plan is that of the extension that it is
  this_plan : (child : Child) (there : Found choices book.rows tells.parent tells.fault child) → with_fault there.row.plan (there.call.index, there.given) ≡ plan
  this_plan child there =
      same_Some (with_fault there.row.plan (there.call.index, there.given)) plan
      (sym (plan_told services test choices fuel lines book kept tells child there) ∙ plan_is)

  told_has_line : (child : Child) (r : Row) (call : Call) (given : Reply) → IsChildOf rows choices child r call given → told_or_this book.told this child
      → HasLine (lines ++ line ∷ []) (with_fault r.plan (call.index, given))
  told_has_line child r call given there (inl known) =
      has_line_left lines (line ∷ []) (with_fault r.plan (call.index, given))
      ((kept.told child r call given (old_child child r call given there (kept.within child known))).0 known)
  told_has_line child r call given there (inr found_is) =
      let it = found choices book.rows tells.parent tells.fault child found_is in
      subst (HasLine (lines ++ line ∷ []))
      (sym (this_plan child it) ∙ one_extension choices rows child it.row r it.call call it.given given (new_child child it.row it.call it.given it.is) there) this_line

  -- no line so far has a plan that extends this one
  not_extended_at : (fault : List Occurrence × Reply) (at : LineWith lines (with_fault plan fault)) (told : List PlanLine) → plan_lines at.above ≡ told → ⊥
  not_extended_at fault at [] none = not_empty plan fault (same_Some [] (with_fault plan fault) (sym (first_plan at.above at.tells none) ∙ at.plan_is))
  not_extended_at fault at (first ∷ more) some =
      let long = ap length some in
      let c = (kept.parents at.above at.stands at.below at.cut at.tells at.is).child (omega (arith, long)) in
      let its = told_plan at.above c.before c.stands c.between c.parent at.tells c.tree.plan c.fault c.cut c.is_parent c.named c.tree.has_plan c.has_fault in
      let same = same_longer c.tree.plan plan c.fault fault (same_Some (with_fault c.tree.plan c.fault) (with_fault plan fault) (sym its ∙ at.plan_is)) in
      let above = has_line at.above c.before c.stands c.between c.parent c.tree.plan c.cut c.is_parent c.tree.has_plan in
      has.is_new plan plan_is
      (subst (HasLine lines) same.0 (subst (λ ls. HasLine ls c.tree.plan) (sym at.cut) (has_line_left at.above (at.stands ∷ at.below) c.tree.plan above)))

  not_extended : (fault : List Occurrence × Reply) → ¬ (HasLine lines (with_fault plan fault))
  not_extended fault extended =
      let at = line_with lines (with_fault plan fault) extended in
      not_extended_at fault at (plan_lines at.above) refl

  -- the extension of an earlier row whose plan is this line's
  is_this : (child : Child) (r : Row) (call : Call) (given : Reply) → IsChildOf book.rows choices child r call given → plan ≡ with_fault r.plan (call.index, given) → this ≡ Some child
  is_this child r call given there longer =
      let within = get_within book.rows child.parent r there.parent in
      let counted = kept.counted in
      let c = is_found services test choices fuel lines book kept tells (has.child (omega (arith, within, counted))) in
      let it = found choices book.rows tells.parent tells.fault c.0 c.1 in
      let same = same_longer r.plan it.row.plan (call.index, given) (it.call.index, it.given) (sym longer ∙ sym (this_plan c.0 it)) in
      let at = row_at services test choices fuel lines book kept child.parent r there.parent in
      let at_too = row_at services test choices fuel lines book kept c.0.parent it.row it.is.parent in
      let number = one_number services test choices fuel lines book kept child.parent c.0.parent r it.row at at_too same.0 in
      c.1 ∙ ap Some (sym (one_child choices book.rows child c.0 r it.row call it.call given it.given there it.is at.row_is.differ (chosen.differ call.callee) number
      (ap (λ (f : List Occurrence × Reply). f.0) same.1) (ap (λ (f : List Occurrence × Reply). f.1) same.1)))

  line_is_told : (child : Child) (r : Row) (call : Call) (given : Reply) → IsChildOf rows choices child r call given → HasLine (lines ++ line ∷ []) (with_fault r.plan (call.index, given))
      → Contains next.told child
  line_is_told child r call given there has_it = by (get_cases book.rows row child.parent r there.parent) (last_line_cases lines line (with_fault r.plan (call.index, given)) has_it)
    where
      by : (slice_get book.rows child.parent ≡ Some r) ⊎ ((child.parent ≡ length book.rows) × (row ≡ r))
          → HasLine lines (with_fault r.plan (call.index, given)) ⊎ ((told : PlanLine) × (plan_line_in line ≡ Some told) × (plan_below lines told ≡ Some (with_fault r.plan (call.index, given))))
          → Contains next.told child
      by (inl old) (inl early) =
          still_told book.told this child
          ((kept.told child r call given (record { parent = old; there = there.there; chosen = there.chosen })).1 early)
      by (inr new) (inl early) =
          absurd (not_extended (call.index, given) (subst (λ (w : Row). HasLine lines (with_fault w.plan (call.index, given))) (sym new.1) early))
      by (inl old) (inr last) =
          now_told book.told this child
          (is_this child r call given (record { parent = old; there = there.there; chosen = there.chosen })
          (same_Some plan (with_fault r.plan (call.index, given)) (sym plan_is ∙ ap (plan_below lines) (same_Some tells last.0 (sym is ∙ last.1)) ∙ last.2)))
      by (inr new) (inr last) =
          no_longer plan (call.index, given)
          (same_Some plan (with_fault r.plan (call.index, given)) (sym plan_is ∙ ap (plan_below lines) (same_Some tells last.0 (sym is ∙ last.1)) ∙ last.2)
          ∙ ap (λ (w : Row). with_fault w.plan (call.index, given)) (sym new.1))

  within_rows : (child : Child) → told_or_this book.told this child → child.parent < length rows
  within_rows child (inl known) =
      let within = kept.within child known in
      let long = length-append book.rows (row ∷ []) in
      omega (arith, within, long)
  within_rows child (inr found_is) =
      let it = found choices book.rows tells.parent tells.fault child found_is in
      let within = get_within book.rows child.parent it.row it.is.parent in
      let long = length-append book.rows (row ∷ []) in
      omega (arith, within, long)

  adds : IsBookOf services test choices fuel (lines ++ line ∷ []) next
  adds = record {
    counted =
        let long = length-append book.rows (row ∷ []) in
        let long_too = ap length (plan_lines_push lines line tells is) ∙ length-append (plan_lines lines) (tells ∷ []) in
        let counted = kept.counted in
        omega (arith, long, long_too, counted);
    rows = each_grows (HasRow services test choices fuel rows) lines line tells is more_rows has_row;
    parents = each_grows (HasParent services test choices fuel) lines line tells is kept.parents has;
    within = λ child known. within_rows child (told_cases book.told this child known);
    told = λ child r call given there. (
      λ known. told_has_line child r call given there (told_cases book.told this child known),
      λ has_it. line_is_told child r call given there has_it,
    );
  }

pub books_grow : SpelledIsRun → OneIsSpelled → ((services : ServicesTree) (test : TestTree) → AreLawful (gives_of services) (runs_of services test)) → BooksGrow
books_grow run one lawful gives choices chosen book at plan parent fault visits services test fuel lines line tells kept is parent_is fault_is has plan_is tree visits_are each_true at_is =
    subst (λ parent. IsBookOf services test choices fuel (lines ++ line ∷ []) (with_row book choices at plan parent fault visits)) parent_is
    (subst (λ fault. IsBookOf services test choices fuel (lines ++ line ∷ []) (with_row book choices at plan tells.parent fault visits)) fault_is
    (adds run one lawful gives choices chosen book at plan visits services test fuel lines line tells kept is has plan_is tree visits_are each_true at_is))
