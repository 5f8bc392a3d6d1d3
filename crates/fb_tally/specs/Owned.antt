-- Who owns the records that lines tell.
use Rattle.std.specs.Prelude.{◌≡◌, ℕ, ◌<◌, Some, List, All, length, map, slice_get}
use Rattle.fb_report.specs.declared.line.Line.{Line}
use Rattle.fb_functest.specs.PlanLines.{PlanLine, plan_line_in}
use Rattle.fb_valid.specs.Lines.{owner_in, owners_told}
use Rattle.fb_valid.specs.Rules.{OfPlan, IsOwned}
use Rattle.fb_valid.specs.Valid.{OfEachLine}
use Rattle.fb_tally.specs.Decisions.{Decides}
use Rattle.fb_tally.specs.Told.{told_from}
use Rattle.fb_tally.specs.declared.rows.RecordRow.{RecordRow}
use Rattle.fb_tally.specs.declared.rows.PlanRow.{PlanRow}

-- a row for each inv line and one for each plan line
pub record OwnerRows : Type 0 where
  pub records : List RecordRow
  pub plans : List PlanRow

abbrev pub record_told : RecordRow → ℕ × ℕ
record_told row = (row.at, row.owner)

abbrev pub plan_row : ℕ × PlanLine → PlanRow
plan_row told = record { at = told.0; run = told.1.run }

-- a plan line uses records of inv lines above it
abbrev pub UsesAbove : List Line → PlanLine → Type 0
UsesAbove above line = All (λ place. place < length (owners_told above)) line.uses

pub record AreOwnersOf (lines : List Line) (owners : OwnerRows) : Type 0 where
  -- of each inv line how many lines stand above it, and the owner that it tells
  pub records : map record_told owners.records ≡ told_from owner_in 0 lines
  -- and whether that is a run line that uses it
  pub owned : (place : ℕ) (row : RecordRow) → slice_get owners.records place ≡ Some row → Decides (IsOwned lines place row.owner) row.owned
  -- of each plan line how many lines stand above it, and whether it is run
  pub plans : owners.plans ≡ map plan_row (told_from plan_line_in 0 lines)
  pub uses : OfEachLine (OfPlan UsesAbove) lines
