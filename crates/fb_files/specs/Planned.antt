-- Which calls of files and of an output in memory fail: those whose numbers they were made with. The calls of each are
-- counted from 1, those that are refused memory too: of files the loads, creates and appends together, of an output the puts.
use Rattle.std.specs.Prelude.{ℕ, Bool}
use Rattle.std.specs.Global.{Vec}
use Rattle.fb_files.specs.Faults.{raised}
use Rattle.fb_files.specs.PlannedFaults.{fails_next, part_at}
use Rattle.fb_files.specs.declared.planned_faults.PlannedFaults.{PlannedFaults}
use Rattle.fb_files.specs.declared.memory_files.MemoryFiles.{MemoryFiles}
use Rattle.fb_files.specs.declared.memory_sink.MemorySink.{MemorySink}

-- the numbers of the calls that fail, how many calls were made, and how many of them failed
abbrev pub plan_of_files : MemoryFiles → PlannedFaults
plan_of_files files = files.plan

-- the next load, create or append fails
abbrev pub next_call_fails : MemoryFiles → Bool
next_call_fails files = fails_next (plan_of_files files)

-- how many of its bytes an append adds that fails, beside its number
abbrev pub parts_of_files : MemoryFiles → Vec (ℕ × ℕ)
parts_of_files files = files.parts

-- how many of its bytes the next append adds, if it fails
abbrev pub next_part : MemoryFiles → ℕ
next_part files = part_at (raised (plan_of_files files).calls) (parts_of_files files).items

-- the same of an output
abbrev pub plan_of_sink : MemorySink → PlannedFaults
plan_of_sink sink = sink.plan

-- the next put fails
abbrev pub next_put_fails : MemorySink → Bool
next_put_fails sink = fails_next (plan_of_sink sink)
