-- What a book answers of the parent of a further line.
use Rattle.std.proofs.Common.{◌≡◌, ℕ, ◌<◌, nat_lt, Bool, true, false, cond, Option, Some, None, List, [], map, length, slice_get, Contains, refl, sym, ap, ◌∙◌, subst, arith}
use Rattle.std.specs.Prelude.{option_map, option_and_then}
use Rattle.std.proofs.lemmas.Option.{same_Some}
use Rattle.fb_base.specs.declared.reply.Reply.{Reply}
use Rattle.fb_index.specs.Entry.{Occurrence}
use Rattle.fb_syntax.specs.Trees.{ServicesTree, TestTree}
use Rattle.fb_tree.specs.Calls.{visits_of}
use Rattle.fb_campaign.specs.Plans.{extensions_of}
use Rattle.fb_campaign.specs.Runs.{Choices, AreDistinct}
use Rattle.fb_report.specs.declared.line.Line.{Line}
use Rattle.fb_functest.specs.PlanLines.{PlanLine, plan_lines, with_fault}
use Rattle.fb_valid.specs.Rules.{IsChild, HasParent}
use Rattle.fb_valid.specs.Trees.{plan_below, HasLine}
use Rattle.fb_book.specs.declared.call.Call.{Call}
use Rattle.fb_book.specs.declared.child.Child.{Child}
use Rattle.fb_book.specs.declared.row.Row.{Row}
use Rattle.fb_book.specs.Books.{BookOf, child_of, longer_plan, new_plan, child_plan, root_plan, plan_for}
use Rattle.fb_book.specs.Children.{is_told}
use Rattle.fb_book.specs.Kept.{IsBookOf}
use Rattle.fb_book.specs.Laws.{Tells, AnswersParent}
use Rattle.fb_book.proofs.Lists.{get_within, none_long}
use borrow.Author.Tests.{ltb-true, ltb-false}
use Rattle.fb_book.proofs.Lines.{child_plan as told_plan, first_plan, no_line}
use Rattle.fb_book.proofs.Sameness.{told_in, in_told}
use Rattle.fb_book.proofs.Rows.{RowAt, row_at}
use Rattle.fb_book.proofs.Extending.{Found, found, finds_child, extended_at, extends_at, same_longer}

module _ (services : ServicesTree) (test : TestTree) (choices : Choices) (fuel : ℕ) (lines : List Line) (book : BookOf) (kept : IsBookOf services test choices fuel lines book) (line : PlanLine) where
  differ : (number : ℕ) (row : Row) → slice_get book.rows number ≡ Some row → AreDistinct (map (λ (call : Call). call.index) row.calls)
  differ number row there = (row_at services test choices fuel lines book kept number row there).row_is.differ

  -- ---- where the extension is found

  module _ (child : Child) (there : Found choices book.rows line.parent line.fault child) where
    at : RowAt services test choices fuel lines book kept child.parent there.row
    at = row_at services test choices fuel lines book kept child.parent there.row there.is.parent

    abbrev fault : List Occurrence × Reply
    fault = (there.call.index, there.given)

    named : line.parent ≡ Some (length (plan_lines at.above))
    named = there.named ∙ ap Some (sym at.number_is)

    pub plan_told : plan_below lines line ≡ Some (with_fault there.row.plan fault)
    plan_told =
        told_plan lines at.above at.stands at.below at.tells line there.row.plan fault at.cut at.is named
        (at.row_is.tree.has_plan ∙ ap Some (sym at.row_is.plan)) there.added

    pub is_child : IsChild services test choices fuel lines line
    is_child =
        let plan_is = at.row_is.plan in
        record {
          before = at.above;
          stands = at.stands;
          between = at.below;
          cut = at.cut;
          parent = at.tells;
          is_parent = at.is;
          named = named;
          tree = at.row_is.tree;
          fault = fault;
          has_fault = there.added;
          extends = subst (λ plan. Contains (extensions_of choices (visits_of at.row_is.tree.run) plan) (with_fault plan fault)) plan_is
              (extends_at choices book.rows child there.row there.call there.given (visits_of at.row_is.tree.run) there.is at.row_is.calls);
        }

    some_line : 0 < length (plan_lines lines)
    some_line =
        let within = get_within book.rows child.parent there.row there.is.parent in
        let counted = kept.counted in
        omega (arith, within, counted)

    pub has_parent : is_told book.told child ≡ false → HasParent services test choices fuel lines line
    has_parent fresh = record {
      root = λ none. (let long = ap length none in absurd (omega (arith, long, some_line)));
      child = λ some. is_child;
      is_new = λ plan is has.
          let has_too = subst (HasLine lines) (same_Some plan (with_fault there.row.plan fault) (sym is ∙ plan_told)) has in
          let known = in_told book.told child ((kept.told child there.row there.call there.given there.is).1 has_too) in
          absurd (let wrong : true ≡ false = sym known ∙ fresh in cc);
    }

    pub was_told : is_told book.told child ≡ true → ¬ (HasParent services test choices fuel lines line)
    was_told known has =
        has.is_new (with_fault there.row.plan fault) plan_told ((kept.told child there.row there.call there.given there.is).0 (told_in book.told child known))

  -- ---- where there is one

  pub is_found : IsChild services test choices fuel lines line → (child : Child) × (child_of book.rows choices line.parent line.fault ≡ Some child)
  is_found c =
      let has = kept.rows c.before c.stands c.between c.cut c.parent c.is_parent in
      let plan_is : c.tree.plan ≡ has.row.plan = same_Some c.tree.plan has.is.tree.plan (sym c.tree.has_plan ∙ has.is.tree.has_plan) ∙ sym has.is.plan in
      let extends = subst (λ plan. Contains (extensions_of choices (visits_of c.tree.run) plan) (with_fault plan c.fault)) plan_is c.extends in
      let extends_too = subst (λ run. Contains (extensions_of choices (visits_of run) has.row.plan) (with_fault has.row.plan c.fault)) (has.is.only c.tree) extends in
      let e = extended_at choices book.rows (length (plan_lines c.before)) has.row (visits_of has.is.tree.run) (with_fault has.row.plan c.fault) has.there has.is.calls extends_too in
      let same = same_longer has.row.plan has.row.plan c.fault (e.call.index, e.given) e.longer_is in
      finds_child choices book.rows line.parent line.fault e.child
      (record { row = has.row; call = e.call; given = e.given; is = e.is; named = c.named ∙ ap Some (sym e.number_is); added = c.has_fault ∙ ap Some same.1 })
      (differ e.child.parent)

-- ---- what is answered

module _ (book : BookOf) (choices : Choices) (parent : Option ℕ) (fault : Option (List Occurrence × Reply)) (run : Bool) where
  tells_child : (line : PlanLine) → Tells line parent fault run → child_of book.rows choices line.parent line.fault ≡ child_of book.rows choices parent fault
  tells_child line tells = λ i. child_of book.rows choices (tells.parent_is i) (tells.fault_is i)

  there_in : (line : PlanLine) (child : Child) → Tells line parent fault run → child_of book.rows choices parent fault ≡ Some child → Found choices book.rows line.parent line.fault child
  there_in line child tells is = found choices book.rows line.parent line.fault child (tells_child line tells ∙ is)

  answers_told : (child : Child) → child_of book.rows choices parent fault ≡ Some child → (b : Bool) → is_told book.told child ≡ b
      → AnswersParent book choices parent fault run (cond b None (longer_plan book.rows child fault))
  answers_told child is true known = λ services test fuel lines line kept tells has.
      was_told services test choices fuel lines book kept line child (there_in line child tells is) known has
  answers_told child is false fresh =
      let there = found choices book.rows parent fault child is in
      let longer : longer_plan book.rows child fault ≡ Some (with_fault there.row.plan (there.call.index, there.given)) =
      ap (option_and_then (λ (row : Row). option_map (with_fault row.plan) fault)) there.is.parent ∙ ap (option_map (with_fault there.row.plan)) there.added in
      subst (AnswersParent book choices parent fault run) (sym longer) (λ services test fuel lines line kept tells. (
        has_parent services test choices fuel lines book kept line child (there_in line child tells is) fresh,
        plan_told services test choices fuel lines book kept line child
            (record { row = there.row; call = there.call; given = there.given; is = there.is; named = tells.parent_is ∙ there.named; added = tells.fault_is ∙ there.added }),
      ))

  answers_child : 0 < length book.rows → (o : Option Child) → child_of book.rows choices parent fault ≡ o
      → AnswersParent book choices parent fault run (option_and_then (λ child. new_plan book child fault) o)
  answers_child some None none = λ services test fuel lines line kept tells has.
      let counted = kept.counted in
      let c = is_found services test choices fuel lines book kept line (has.child (omega (arith, some, counted))) in
      absurd (let wrong : None ≡ Some c.0 = sym none ∙ sym (tells_child line tells) ∙ c.1 in cc)
  answers_child some (Some child) is = answers_told child is (is_told book.told child) refl

  no_rows : (services : ServicesTree) (test : TestTree) (fuel : ℕ) (lines : List Line) → IsBookOf services test choices fuel lines book → length book.rows ≡ 0 → plan_lines lines ≡ []
  no_rows services test fuel lines kept long = none_long (plan_lines lines) (sym kept.counted ∙ long)

answers_root : (book : BookOf) (choices : Choices) (parent : Option ℕ) (fault : Option (List Occurrence × Reply)) (run : Bool) → length book.rows ≡ 0
    → AnswersParent book choices parent fault run (root_plan parent fault run)
answers_root book choices (Some number) fault run none = λ services test fuel lines line kept tells has.
    let root = has.root (no_rows book choices (Some number) fault run services test fuel lines kept none) in
    absurd (let wrong : Some number ≡ None = sym tells.parent_is ∙ root.no_parent in cc)
answers_root book choices None (Some f) run none = λ services test fuel lines line kept tells has.
    let root = has.root (no_rows book choices None (Some f) run services test fuel lines kept none) in
    absurd (let wrong : Some f ≡ None = sym tells.fault_is ∙ root.no_fault in cc)
answers_root book choices None None false none = λ services test fuel lines line kept tells has.
    let root = has.root (no_rows book choices None None false services test fuel lines kept none) in
    absurd (let wrong : false ≡ true = sym tells.run_is ∙ root.is_run in cc)
answers_root book choices None None true none = λ services test fuel lines line kept tells.
    let first = no_rows book choices None None true services test fuel lines kept none in (
      record {
        root = λ is. record { no_parent = tells.parent_is; no_fault = tells.fault_is; is_run = tells.run_is };
        child = λ some. (let long = ap length first in absurd (omega (arith, some, long)));
        is_new = λ plan is has. no_line lines plan first has;
      },
      first_plan lines line first,
    )

pub answers : (book : BookOf) (choices : Choices) (parent : Option ℕ) (fault : Option (List Occurrence × Reply)) (run : Bool)
    → AnswersParent book choices parent fault run (plan_for book choices parent fault run)
answers book choices parent fault run = by (nat_lt 0 (length book.rows)) refl
  where
    by : (b : Bool) → nat_lt 0 (length book.rows) ≡ b → AnswersParent book choices parent fault run (cond b (child_plan book choices parent fault) (root_plan parent fault run))
    by true some = answers_child book choices parent fault run (ltb-true 0 (length book.rows) some) (child_of book.rows choices parent fault) refl
    by false none = answers_root book choices parent fault run (let upto = ltb-false 0 (length book.rows) none in omega (arith, upto))
