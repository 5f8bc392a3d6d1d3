-- A count of failures that stands still at its end.
use Rattle.std.specs.Prelude.{ℕ, ◌+◌, min, Bool, true, false, if◌then◌else◌, Result, Ok, Err}
use Rattle.std.specs.Global.{Vec}
use Rattle.fb_base.specs.Count.{greatest_count}
use Rattle.fb_files.specs.declared.error.LoadError.{LoadError}
use Rattle.fb_files.specs.declared.error.LoadError.TheVariants as load
use Rattle.fb_files.specs.declared.error.WriteError.{WriteError}
use Rattle.fb_files.specs.declared.error.WriteError.TheVariants as write

-- one more, or the greatest count
abbrev pub raised : ℕ → ℕ
raised count = min (count + 1) greatest_count

-- the failures after a call that failed or didn't
abbrev pub faults_after : Bool → ℕ → ℕ
faults_after failed faults = if failed then raised faults else faults

abbrev pub load_failed : Result (Vec ℕ) LoadError → Bool
load_failed (Ok bytes) = false
load_failed (Err load.Failed) = true
load_failed (Err load.TooLong) = false
load_failed (Err load.Memory) = false

abbrev pub write_failed : Result (Unit {0}) WriteError → Bool
write_failed (Ok done) = false
write_failed (Err write.Failed) = true
write_failed (Err write.Memory) = false
