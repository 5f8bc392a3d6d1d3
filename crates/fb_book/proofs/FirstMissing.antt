-- The first extension without a line.
use Rattle.std.proofs.Common.{◌≡◌, ⊎_elim, ℕ, true, false, Option, Some, None, List, [], ◌∷◌, ◌++◌, map, flat_map, length, slice_get, Contains, refl, sym, ap, ◌∙◌, subst, arith, append_assoc, length-append}
use Rattle.std.specs.Prelude.{option_map, option_and_then}
use Rattle.std.proofs.lemmas.List.{map-append}
use Rattle.std.proofs.lemmas.List.Elements.{Contains-append_cases, filter_map-append}
use Rattle.std.proofs.lemmas.Grind.{flat_map-append}
use Rattle.std.proofs.lemmas.Option.{same_Some}
use Rattle.fb_base.specs.declared.reply.Reply.{Reply}
use Rattle.fb_index.specs.declared.fault.Fault.{Fault}
use Rattle.fb_syntax.specs.Trees.{ServicesTree, TestTree}
use Rattle.fb_tree.specs.Calls.{visits_of}
use Rattle.fb_tree.specs.declared.visit.Visit.{Visit}
use Rattle.fb_campaign.specs.Plans.{begun_after_plan, between_services, extensions_at, extensions_of}
use Rattle.fb_campaign.specs.Runs.{Choices}
use Rattle.fb_meaning.specs.Each.{HoldsOfEach}
use Rattle.fb_report.specs.declared.line.Line.{Line}
use Rattle.fb_functest.specs.PlanLines.{PlanLine, plan_line_in, plan_lines, with_fault}
use Rattle.fb_valid.specs.Rules.{OfPlan, IsExtended}
use Rattle.fb_valid.specs.Trees.{HasLine}
use Rattle.fb_valid.specs.Valid.{OfEachLine}
use Rattle.fb_valid.specs.Verdict.{IsFirstNot, LacksLine}
use Rattle.fb_book.specs.declared.call.Call.{Call}
use Rattle.fb_book.specs.declared.child.Child.{Child}
use Rattle.fb_book.specs.declared.row.Row.{Row}
use Rattle.fb_book.specs.Books.{BookOf, missing_at, missing_call, missing_row, missing_of}
use Rattle.fb_book.specs.Calls.{called}
use Rattle.fb_book.specs.Children.{is_told}
use Rattle.fb_book.specs.Kept.{IsChildOf, IsBookOf}
use Rattle.fb_book.specs.Laws.{AnswersMissing}
use Rattle.fb_book.proofs.Lists.{in_head, in_tail, get_in, get_left, get_front, get_next, get_map, flat_map_has, map_has, MapCut, map_cut, made_some}
use Rattle.fb_book.proofs.Sameness.{told_in, in_told}
use Rattle.fb_book.proofs.Rows.{RowAt, row_at}
use Rattle.fb_book.proofs.Extending.{extended_at, extends_at}
use Rattle.fb_book.proofs.Seeking.{choices_told, calls_told, rows_told, RowOf, row_of}

each_member : {A : Type 0} (P : A → Type 0) (xs : List A) → ((x : A) → Contains xs x → P x) → HoldsOfEach P xs
each_member P [] member = tt
each_member P (x ∷ xs) member = (member x (in_head x xs), each_member P xs (λ y has. member y (in_tail y x xs has)))

-- ---- the first extension that isn't told is one

module _ (told : List Child) (rows : List Row) (choices : Choices) (child : Child) (first : RowOf told choices rows child) where
  first_row : slice_get rows (length first.before) ≡ Some first.row
  first_row = ap (λ rs. slice_get rs (length first.before)) first.is ∙ get_next first.before first.after first.row

  first_call : slice_get first.row.calls (length first.call.before) ≡ Some first.call.call
  first_call = ap (λ calls. slice_get calls (length first.call.before)) first.call.is ∙ get_next first.call.before first.call.after first.call.call

  first_given : slice_get (choices first.call.call.callee) (length first.call.choice.before) ≡ Some first.call.choice.given
  first_given =
      ap (λ replies. slice_get replies (length first.call.choice.before)) first.call.choice.is
      ∙ get_next first.call.choice.before first.call.choice.after first.call.choice.given

  first_is : IsChildOf rows choices child first.row first.call.call first.call.choice.given
  first_is =
      subst (λ (c : Child). IsChildOf rows choices c first.row first.call.call first.call.choice.given) first.call.choice.child_is
      (record { parent = first_row; there = first_call; chosen = first_given })

module _ (services : ServicesTree) (test : TestTree) (choices : Choices) (fuel : ℕ) (lines : List Line) (book : BookOf) (kept : IsBookOf services test choices fuel lines book) where
  -- an extension that is told has a line
  told_line : (child : Child) (row : Row) (call : Call) (given : Reply) → IsChildOf book.rows choices child row call given → is_told book.told child ≡ true
      → HasLine lines (with_fault row.plan (call.index, given))
  told_line child row call given is known = (kept.told child row call given is).0 (told_in book.told child known)

  untold_line : (child : Child) (row : Row) (call : Call) (given : Reply) → IsChildOf book.rows choices child row call given → is_told book.told child ≡ false
      → ¬ (HasLine lines (with_fault row.plan (call.index, given)))
  untold_line child row call given is unknown has =
      let known = in_told book.told child ((kept.told child row call given is).1 has) in
      absurd (let wrong : true ≡ false = sym known ∙ unknown in cc)

  -- a plan line of whose row all extensions are told
  row_extended : (above : List Line) (stands : Line) (below : List Line) (tells : PlanLine) → lines ≡ above ++ stands ∷ below → plan_line_in stands ≡ Some tells
      → ((row : Row) → slice_get book.rows (length (plan_lines above)) ≡ Some row → missing_call book.told choices (length (plan_lines above)) 0 row.calls ≡ None)
      → IsExtended services test choices fuel lines above tells
  row_extended above stands below tells cut is none tree longer extends =
      let has = kept.rows above stands below cut tells is in
      let number = length (plan_lines above) in
      let plan_is : tree.plan ≡ has.row.plan = same_Some tree.plan has.is.tree.plan (sym tree.has_plan ∙ has.is.tree.has_plan) ∙ sym has.is.plan in
      let extends_row = subst (λ plan. Contains (extensions_of choices (visits_of tree.run) plan) longer) plan_is extends in
      let extends_run = subst (λ run. Contains (extensions_of choices (visits_of run) has.row.plan) longer) (has.is.only tree) extends_row in
      let e = extended_at choices book.rows number has.row (visits_of has.is.tree.run) longer has.there has.is.calls extends_run in
      let known = calls_told book.told choices number e.child.call e.child.choice e.call e.given has.row.calls (none has.row has.there) e.is.there e.is.chosen in
      let known_child = subst (λ n. is_told book.told (record { parent = n; call = e.child.call; choice = e.child.choice }) ≡ true) (sym e.number_is) known in
      subst (HasLine lines) (sym e.longer_is) (told_line e.child has.row e.call e.given e.is known_child)

  pub all_extended : missing_row book.told choices 0 book.rows ≡ None → OfEachLine (OfPlan (IsExtended services test choices fuel lines)) lines
  all_extended none above stands below cut tells is =
      row_extended above stands below tells cut is (λ row there. rows_told book.told choices (length (plan_lines above)) row book.rows none there)

  -- ---- the first one that isn't told

  module _ (child : Child) (first : RowOf book.told choices book.rows child) where
    abbrev number : ℕ
    number = length first.before

    abbrev place : ℕ
    place = length first.call.before

    abbrev given : Reply
    given = first.call.choice.given

    row_there : slice_get book.rows number ≡ Some first.row
    row_there = first_row book.told book.rows choices child first

    call_there : slice_get first.row.calls place ≡ Some first.call.call
    call_there = first_call book.told book.rows choices child first

    child_is : IsChildOf book.rows choices child first.row first.call.call given
    child_is = first_is book.told book.rows choices child first

    at : RowAt services test choices fuel lines book kept number first.row
    at = row_at services test choices fuel lines book kept number first.row row_there

    abbrev visits : List Visit
    visits = between_services (begun_after_plan first.row.plan (visits_of at.row_is.tree.run))

    not_told : ¬ (HasLine lines (with_fault first.row.plan (first.call.call.index, given)))
    not_told = untold_line child first.row first.call.call given child_is first.call.choice.unknown

    earlier_lines : OfEachLine (OfPlan (IsExtended services test choices fuel lines)) at.above
    earlier_lines above stands below cut tells is =
        let cut_all : lines ≡ above ++ stands ∷ (below ++ at.stands ∷ at.below) =
        at.cut ∙ ap (λ ls. ls ++ at.stands ∷ at.below) cut ∙ append_assoc above (stands ∷ below) (at.stands ∷ at.below) in
        let plans : plan_lines at.above ≡ plan_lines above ++ tells ∷ plan_lines below =
        ap plan_lines cut ∙ filter_map-append plan_line_in above (stands ∷ below) ∙ ap (λ rest. plan_lines above ++ rest) (made_some plan_line_in stands below tells is) in
        let long = ap length plans ∙ length-append (plan_lines above) (tells ∷ plan_lines below) in
        let number_is = at.number_is in
        row_extended above stands (below ++ at.stands ∷ at.below) tells cut_all is
        (λ row there. first.earlier (length (plan_lines above)) row
        (get_front first.before (first.row ∷ first.after) (length (plan_lines above)) row (omega (arith, long, number_is))
        (ap (λ rows. slice_get rows (length (plan_lines above))) (sym first.is) ∙ there)))

    extends : Contains (extensions_of choices (visits_of at.row_is.tree.run) first.row.plan) (with_fault first.row.plan (first.call.call.index, given))
    extends = extends_at choices book.rows child first.row first.call.call given (visits_of at.row_is.tree.run) child_is at.row_is.calls

    broken : ¬ (OfPlan (IsExtended services test choices fuel lines) at.above at.stands)
    broken keeps =
        not_told (subst (λ plan. HasLine lines (with_fault plan (first.call.call.index, given))) (sym at.row_is.plan)
        (keeps at.tells at.is at.row_is.tree (with_fault at.row_is.tree.plan (first.call.call.index, given))
        (subst (λ plan. Contains (extensions_of choices (visits_of at.row_is.tree.run) plan) (with_fault plan (first.call.call.index, given))) at.row_is.plan extends)))

    -- ---- the extensions before it

    abbrev longer_by : Visit → Reply → List Fault
    longer_by visit given = first.row.plan ++ record { index = visit.index; reply = given } ∷ []

    cut_visits : MapCut called visits first.call.before first.call.call
    cut_visits = map_cut called visits first.call.before first.call.after first.call.call (sym at.row_is.calls ∙ first.call.is)

    choices_are : choices cut_visits.item.callee ≡ first.call.choice.before ++ given ∷ first.call.choice.after
    choices_are = ap (λ (c : Call). choices c.callee) cut_visits.image ∙ first.call.choice.is

    abbrev earlier : List (List Fault)
    earlier = flat_map (extensions_at choices first.row.plan) cut_visits.above ++ map (longer_by cut_visits.item) first.call.choice.before

    abbrev later : List (List Fault)
    later = map (longer_by cut_visits.item) first.call.choice.after ++ flat_map (extensions_at choices first.row.plan) cut_visits.below

    here_are : extensions_at choices first.row.plan cut_visits.item
        ≡ map (longer_by cut_visits.item) first.call.choice.before ++ longer_by cut_visits.item given ∷ map (longer_by cut_visits.item) first.call.choice.after
    here_are =
        ap (map (longer_by cut_visits.item)) choices_are
        ∙ map-append (longer_by cut_visits.item) first.call.choice.before (given ∷ first.call.choice.after)

    all_are : extensions_of choices (visits_of at.row_is.tree.run) first.row.plan ≡ earlier ++ longer_by cut_visits.item given ∷ later
    all_are =
        let some = flat_map (extensions_at choices first.row.plan) cut_visits.above in
        let here = map (longer_by cut_visits.item) first.call.choice.before in
        let rest = map (longer_by cut_visits.item) first.call.choice.after in
        let behind = flat_map (extensions_at choices first.row.plan) cut_visits.below in
        ap (flat_map (extensions_at choices first.row.plan)) cut_visits.is
        ∙ flat_map-append (extensions_at choices first.row.plan) cut_visits.above (cut_visits.item ∷ cut_visits.below)
        ∙ ap (λ exts. some ++ (exts ++ behind)) here_are
        ∙ ap (λ exts. some ++ exts) (append_assoc here (longer_by cut_visits.item given ∷ rest) behind)
        ∙ sym (append_assoc some here (longer_by cut_visits.item given ∷ (rest ++ behind)))

    -- by a call before it
    line_above : (longer : List Fault) → Contains (flat_map (extensions_at choices first.row.plan) cut_visits.above) longer → HasLine lines longer
    line_above longer has =
        let found = flat_map_has (extensions_at choices first.row.plan) longer cut_visits.above has in
        let reply = map_has (longer_by found.0) longer (choices found.0.callee) found.2 in
        let at_place = get_in cut_visits.above found.0 found.1 in
        let at_choice = get_in (choices found.0.callee) reply.0 reply.1 in
        let before_there : slice_get first.call.before at_place.0 ≡ Some (called found.0) =
        ap (λ calls. slice_get calls at_place.0) (sym cut_visits.images) ∙ get_map called cut_visits.above at_place.0 found.0 at_place.1 in
        let there : slice_get first.row.calls at_place.0 ≡ Some (called found.0) =
        ap (λ calls. slice_get calls at_place.0) first.call.is ∙ get_left first.call.before (first.call.call ∷ first.call.after) at_place.0 (called found.0) before_there in
        let known = choices_told book.told number at_place.0 at_choice.0 reply.0 (choices found.0.callee) (first.call.earlier at_place.0 (called found.0) before_there) at_choice.1 in
        subst (HasLine lines) reply.2
        (told_line (record { parent = number; call = at_place.0; choice = at_choice.0 }) first.row (called found.0) reply.0
        (record { parent = row_there; there = there; chosen = at_choice.1 }) known)

    -- by a choice before it
    line_here : (longer : List Fault) → Contains (map (longer_by cut_visits.item) first.call.choice.before) longer → HasLine lines longer
    line_here longer has =
        let reply = map_has (longer_by cut_visits.item) longer first.call.choice.before has in
        let at_choice = get_in first.call.choice.before reply.0 reply.1 in
        let there : slice_get (choices first.call.call.callee) at_choice.0 ≡ Some reply.0 =
        ap (λ replies. slice_get replies at_choice.0) first.call.choice.is ∙ get_left first.call.choice.before (given ∷ first.call.choice.after) at_choice.0 reply.0 at_choice.1 in
        let known = first.call.choice.earlier at_choice.0 reply.0 at_choice.1 in
        subst (HasLine lines) (ap (λ (c : Call). with_fault first.row.plan (c.index, reply.0)) (sym cut_visits.image) ∙ reply.2)
        (told_line (record { parent = number; call = place; choice = at_choice.0 }) first.row first.call.call reply.0
        (record { parent = row_there; there = call_there; chosen = there }) known)

    first_of_row : IsFirstNot (HasLine lines) (extensions_of choices (visits_of at.row_is.tree.run) first.row.plan) (with_fault first.row.plan (first.call.call.index, given))
    first_of_row = record {
      before = earlier;
      after = later;
      cut = all_are ∙ ap (λ (c : Call). earlier ++ with_fault first.row.plan (c.index, given) ∷ later) cut_visits.image;
      hold = each_member (HasLine lines) earlier (λ longer has. ⊎_elim (λ above. line_above longer above) (λ here. line_here longer here)
          (Contains-append_cases (flat_map (extensions_at choices first.row.plan) cut_visits.above) (map (longer_by cut_visits.item) first.call.choice.before) longer has));
      fails = not_told;
    }

    lacks : LacksLine services test choices fuel lines at.above at.stands (first.call.call.index, given)
    lacks = record {
      first_line = record { below = at.below; cut = at.cut; kept = earlier_lines; broken = broken };
      tells = at.tells;
      is_plan = at.is;
      tree = at.row_is.tree;
      first =
          subst (λ plan. IsFirstNot (HasLine lines) (extensions_of choices (visits_of at.row_is.tree.run) plan) (with_fault plan (first.call.call.index, given)))
          at.row_is.plan first_of_row;
    }

    pub lacks_some : (above : List Line) × (line : Line) × LacksLine services test choices fuel lines above line (first.call.call.index, given) × (length above ≡ first.row.at)
    lacks_some = (at.above, at.stands, lacks, sym at.row_is.at)

-- ---- what is answered

answers_first : (book : BookOf) (choices : Choices) (child : Child) → RowOf book.told choices book.rows child → AnswersMissing book choices (missing_at book.rows choices child)
answers_first book choices child first =
    let is = first_is book.told book.rows choices child first in
    let found : missing_at book.rows choices child ≡ Some (record { at = first.row.at; index = first.call.call.index; reply = first.call.choice.given }) =
    ap (option_and_then (λ (row : Row). option_and_then (λ (call : Call).
    option_map (λ given. record { at = row.at; index = call.index; reply = given }) (slice_get (choices call.callee) child.choice))
    (slice_get row.calls child.call))) is.parent
    ∙ ap (option_and_then (λ (call : Call). option_map (λ given. record { at = first.row.at; index = call.index; reply = given }) (slice_get (choices call.callee) child.choice))) is.there
    ∙ ap (option_map (λ given. record { at = first.row.at; index = first.call.call.index; reply = given })) is.chosen in
    subst (AnswersMissing book choices) (sym found) (λ services test fuel lines kept. lacks_some services test choices fuel lines book kept child first)

pub answers_missing : (book : BookOf) (choices : Choices) → AnswersMissing book choices (missing_of book choices)
answers_missing book choices = by (missing_row book.told choices 0 book.rows) refl
  where
    by : (o : Option Child) → missing_row book.told choices 0 book.rows ≡ o → AnswersMissing book choices (option_and_then (missing_at book.rows choices) o)
    by None none = λ services test fuel lines kept. all_extended services test choices fuel lines book kept none
    by (Some child) is = answers_first book choices child (row_of book.told choices book.rows child is)
