-- The rows of a book and the plan lines that they are of.
use Rattle.std.proofs.Common.{◌≡◌, ℕ, ◌<◌, Some, List, ◌∷◌, ◌++◌, length, slice_get, sym, ap, ◌∙◌, subst}
use Rattle.std.proofs.lemmas.Option.{same_Some}
use Rattle.fb_syntax.specs.Trees.{ServicesTree, TestTree}
use Rattle.fb_campaign.specs.Runs.{Choices}
use Rattle.fb_report.specs.declared.line.Line.{Line}
use Rattle.fb_functest.specs.PlanLines.{PlanLine, plan_line_in, plan_lines}
use Rattle.fb_valid.specs.Trees.{plan_below}
use Rattle.fb_book.specs.declared.row.Row.{Row}
use Rattle.fb_book.specs.Books.{BookOf}
use Rattle.fb_book.specs.Kept.{IsRowOf, IsBookOf}
use Rattle.fb_book.proofs.Lists.{get_within}
use Rattle.fb_book.proofs.Lines.{Cuts, same_cut, later_cut, earlier_cut, cuts, numbered, has_line}

module _ (services : ServicesTree) (test : TestTree) (choices : Choices) (fuel : ℕ) (lines : List Line) (book : BookOf) (kept : IsBookOf services test choices fuel lines book) where
  -- the row with a number, and its line
  pub record RowAt (number : ℕ) (row : Row) : Type 0 where
    pub above : List Line
    pub stands : Line
    pub below : List Line
    pub cut : lines ≡ above ++ stands ∷ below
    pub tells : PlanLine
    pub is : plan_line_in stands ≡ Some tells
    pub number_is : length (plan_lines above) ≡ number
    pub row_is : IsRowOf services test choices fuel above tells row

  pub row_at : (number : ℕ) (row : Row) → slice_get book.rows number ≡ Some row → RowAt number row
  row_at number row there =
      let within = get_within book.rows number row there in
      let at = numbered lines number (subst (λ n. number < n) kept.counted within) in
      let has = kept.rows at.above at.stands at.below at.cut at.tells at.is in
      let same : has.row ≡ row = same_Some has.row row (sym has.there ∙ ap (slice_get book.rows) at.number_is ∙ there) in
      record {
        above = at.above;
        stands = at.stands;
        below = at.below;
        cut = at.cut;
        tells = at.tells;
        is = at.is;
        number_is = at.number_is;
        row_is = subst (IsRowOf services test choices fuel at.above at.tells) same has.is;
      }

  pub row_plan : (number : ℕ) (row : Row) (at : RowAt number row) → plan_below at.above at.tells ≡ Some row.plan
  row_plan number row at = at.row_is.tree.has_plan ∙ ap Some (sym at.row_is.plan)

  -- rows differ in their plans
  pub one_number : (number other : ℕ) (row another : Row) → RowAt number row → RowAt other another → row.plan ≡ another.plan → number ≡ other
  one_number number other row another at too same =
      by (cuts at.above at.below too.above too.below at.stands too.stands (sym at.cut ∙ too.cut))
    where
      by : Cuts at.above at.stands too.above too.stands → number ≡ other
      by (same_cut lists items) = sym at.number_is ∙ ap (λ up. length (plan_lines up)) lists ∙ too.number_is
      by (later_cut more is) =
          absurd ((kept.parents too.above too.stands too.below too.cut too.tells too.is).is_new another.plan (row_plan other another too)
          (has_line too.above at.above at.stands more at.tells another.plan is at.is (row_plan number row at ∙ ap Some same)))
      by (earlier_cut more is) =
          absurd ((kept.parents at.above at.stands at.below at.cut at.tells at.is).is_new row.plan (row_plan number row at)
          (has_line at.above too.above too.stands more too.tells row.plan is too.is (row_plan other another too ∙ ap Some (sym same))))
