-- Which calls of an object in memory fail, and how often they did.
use Rattle.std.specs.Prelude.{ℕ, ◌==◌, Bool, List}
use Rattle.std.specs.List.{find, list_any}
use Rattle.std.specs.Option.{option_map, unwrap_or}
use Rattle.std.specs.Global.{Vec}
use Rattle.fb_files.specs.Faults.{raised, faults_after}
use Rattle.fb_files.specs.declared.planned_faults.PlannedFaults.{PlannedFaults}

-- no call was made yet
abbrev pub unused : Vec ℕ → PlannedFaults
unused fails = record { fails = fails; calls = 0; faults = 0 }

-- the number of the next call is one of those that fail
abbrev pub fails_next : PlannedFaults → Bool
fails_next plan = list_any (λ number. number == raised plan.calls) plan.fails.items

-- a failure is counted where there was one
abbrev pub noted : Bool → PlannedFaults → PlannedFaults
noted failed plan = record plan { faults = faults_after failed plan.faults }

-- the call is counted
abbrev pub counted : PlannedFaults → PlannedFaults
counted plan = record plan { calls = raised plan.calls }

-- a call that failed or didn't is over
abbrev pub after_call : Bool → PlannedFaults → PlannedFaults
after_call failed plan = noted failed (counted plan)

-- how many of its bytes the call of this number adds before it fails: what stands beside the number where it first stands
abbrev pub part_at : ℕ → List (ℕ × ℕ) → ℕ
part_at call parts = unwrap_or (option_map (λ part. part.1) (find (λ part. part.0 == call) parts)) 0
