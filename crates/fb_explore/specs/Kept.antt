-- Lines that are kept in memory.
use Rattle.std.specs.Prelude.{◌≡◌, Bool, List, []}
use Rattle.fb_files.specs.PlannedFaults.{fails_next}
use Rattle.fb_files.specs.declared.planned_faults.PlannedFaults.{PlannedFaults}
use Rattle.fb_report.specs.declared.line.Line.{Line}

-- the lines, and the numbers of the puts that fail, how many puts there were, and how many of them failed
pub record Kept : Type 0 where
  pub lines : List Line
  pub plan : PlannedFaults

-- the next put fails
abbrev pub next_put_fails : Kept → Bool
next_put_fails kept = fails_next kept.plan

-- where none is to fail none did
abbrev pub IsQuiet : PlannedFaults → Type 0
IsQuiet plan = plan.fails.items ≡ [] → plan.faults ≡ 0
