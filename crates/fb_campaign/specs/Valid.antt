-- When a report is valid: each rule looks at the lines, and at the run of one plan at a time.
use Rattle.std.specs.Prelude.{◌≡◌, ℕ, suc, ◌<◌, Bool, true, false, Some, None, List, [], ◌∷◌, ◌++◌, map, length, slice_get, Contains}
use Rattle.fb_index.specs.declared.fault.Fault.{Fault}
use Rattle.fb_campaign.specs.Runs.{Went, Runs, Choices, AreDistinct}
use Rattle.fb_campaign.specs.Plans.{injections_in, extensions_of}
use Rattle.fb_campaign.specs.Reports.{Recorded, Planned, Cause, Completed, Totals, Line, PlanLine, EndLine, record_lines, plan_lines, records_in, plans_in, totals_of}

-- the last line is the only end line, says completed, and has the totals of the lines above; some line is of a plan
pub record IsWhole (lines : List Line) : Type 0 where
  pub body : List Line
  pub ended : lines ≡ body ++ EndLine Completed (totals_of body) ∷ []
  pub no_earlier_end : (cause : Cause) (totals : Totals) → ¬ (Contains body (EndLine cause totals))
  pub some_plan : 0 < length (plan_lines body)

-- the first plan line: the empty plan, which is run
pub record IsRoot (line : Planned) : Type 0 where
  pub no_parent : line.parent ≡ None
  pub no_fault : line.plan ≡ []
  pub is_run : line.is_run ≡ true

-- another one, by its number: it extends the plan of an earlier line, by the calls of that line
pub record IsChild (choices : Choices) (lines : List Line) (number : ℕ) (line : Planned) : Type 0 where
  pub place : ℕ
  pub parent : Planned
  pub named : line.parent ≡ Some place
  pub earlier : place < number
  pub there : slice_get (plan_lines lines) place ≡ Some parent
  pub extended : Contains (extensions_of choices parent.visits parent.plan) line.plan

pub record AreParents (choices : Choices) (lines : List Line) : Type 0 where
  pub root : (line : Planned) → slice_get (plan_lines lines) 0 ≡ Some line → IsRoot line
  pub child : (number : ℕ) (line : Planned) → slice_get (plan_lines lines) (suc number) ≡ Some line →
      IsChild choices lines (suc number) line
  pub once : AreDistinct (plans_in lines)

-- its uses name the records of its plan's run, among those above it, and that run injects exactly the plan
pub record IsSpelled (runs : Runs) (fuel : ℕ) (above : List Line) (line : Planned) : Type 0 where
  pub went : Went
  pub done : runs fuel line.plan ≡ Some went
  pub visits : line.visits ≡ went.visits
  pub records : line.records ≡ went.records
  pub injected : injections_in line.visits ≡ line.plan
  pub used : map (slice_get (records_in above)) line.uses ≡ map Some line.records

-- a run line owns the record, and uses it
pub record IsOwned (lines : List Line) (place owner : ℕ) : Type 0 where
  pub line : Planned
  pub there : slice_get (plan_lines lines) owner ≡ Some line
  pub is_run : line.is_run ≡ true
  pub uses : Contains line.uses place

pub record AreOwners (lines : List Line) : Type 0 where
  pub owned : (place : ℕ) (line : Recorded) → slice_get (record_lines lines) place ≡ Some line → IsOwned lines place line.owner
  -- a pruned line uses only records of earlier plan lines
  pub earlier : (number : ℕ) (line : Planned) → slice_get (plan_lines lines) number ≡ Some line → line.is_run ≡ false →
      (place : ℕ) (used : Recorded) → Contains line.uses place → slice_get (record_lines lines) place ≡ Some used →
      used.owner < number

-- a run line owns some record
abbrev pub OwnsSome : List Line → ℕ → Type 0
OwnsSome lines number = (line : Recorded) × Contains (record_lines lines) line × (line.owner ≡ number)

pub record IsValid (runs : Runs) (choices : Choices) (fuel : ℕ) (reduction : Bool) (lines : List Line) : Type 0 where
  pub structure : IsWhole lines
  pub records : AreDistinct (records_in lines)
  pub parents : AreParents choices lines
  pub trees : (above : List Line) (line : Planned) (below : List Line) → lines ≡ above ++ PlanLine line ∷ below →
      IsSpelled runs fuel above line
  pub outcomes : (line : Planned) (went : Went) → Contains (plan_lines lines) line → runs fuel line.plan ≡ Some went →
      line.outcome ≡ went.outcome
  -- each extension of its plan has a line
  pub complete : (line : Planned) (plan : List Fault) → Contains (plan_lines lines) line →
      Contains (extensions_of choices line.visits line.plan) plan → Contains (plans_in lines) plan
  pub owners : AreOwners lines
  pub reduced : reduction ≡ true → (number : ℕ) (line : Planned) → slice_get (plan_lines lines) (suc number) ≡ Some line →
      line.is_run ≡ true → OwnsSome lines (suc number)
