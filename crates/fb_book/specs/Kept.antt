-- When a book is that of the lines that were read.
use Rattle.std.specs.Prelude.{◌≡◌, ◌↔◌, ℕ, ◌<◌, Some, List, map, length, slice_get, Contains}
use Rattle.fb_base.specs.declared.reply.Reply.{Reply}
use Rattle.fb_syntax.specs.Trees.{ServicesTree, TestTree}
use Rattle.fb_tree.specs.Calls.{visits_of}
use Rattle.fb_campaign.specs.Runs.{Choices, AreDistinct}
use Rattle.fb_report.specs.declared.line.Line.{Line}
use Rattle.fb_functest.specs.PlanLines.{PlanLine, plan_lines, with_fault}
use Rattle.fb_valid.specs.Rules.{OfPlan, HasParent}
use Rattle.fb_valid.specs.Trees.{IsSpelled, HasLine}
use Rattle.fb_valid.specs.Valid.{OfEachLine}
use Rattle.fb_book.specs.declared.call.Call.{Call}
use Rattle.fb_book.specs.declared.child.Child.{Child}
use Rattle.fb_book.specs.declared.row.Row.{Row}
use Rattle.fb_book.specs.Calls.{calls_for}
use Rattle.fb_book.specs.Books.{BookOf}

-- there is such an extension, by this reply at this call of this row
pub record IsChildOf (rows : List Row) (choices : Choices) (child : Child) (row : Row) (call : Call) (given : Reply) : Type 0 where
  pub parent : slice_get rows child.parent ≡ Some row
  pub there : slice_get row.calls child.call ≡ Some call
  pub chosen : slice_get (choices call.callee) child.choice ≡ Some given

module _ (services : ServicesTree) (test : TestTree) (choices : Choices) (fuel : ℕ) where
  -- the row of a plan line below these lines, which spell one run alone under its plan
  pub record IsRowOf (before : List Line) (line : PlanLine) (row : Row) : Type 0 where
    pub at : row.at ≡ length before
    pub tree : IsSpelled services test fuel before line
    pub only : (other : IsSpelled services test fuel before line) → other.run ≡ tree.run
    pub plan : row.plan ≡ tree.plan
    pub calls : row.calls ≡ calls_for row.plan (visits_of tree.run)
    pub differ : AreDistinct (map (λ (call : Call). call.index) row.calls)

  -- it stands at the line's number
  pub record HasRow (rows : List Row) (before : List Line) (line : PlanLine) : Type 0 where
    pub row : Row
    pub there : slice_get rows (length (plan_lines before)) ≡ Some row
    pub is : IsRowOf before line row

  -- the book of these lines, of which the plan lines have their parents
  pub record IsBookOf (lines : List Line) (book : BookOf) : Type 0 where
    pub counted : length book.rows ≡ length (plan_lines lines)
    pub rows : OfEachLine (OfPlan (HasRow book.rows)) lines
    pub parents : OfEachLine (OfPlan (HasParent services test choices fuel)) lines
    pub within : (child : Child) → Contains book.told child → child.parent < length book.rows
    -- an extension is told exactly where a plan line has its plan
    pub told : (child : Child) (row : Row) (call : Call) (given : Reply) → IsChildOf book.rows choices child row call given →
        Contains book.told child ↔ HasLine lines (with_fault row.plan (call.index, given))
