-- The names of a job's files.
use Rattle.std.specs.Prelude.{ℕ, Bool, false, ◌||◌, List, [], Option, Some, None}
use Rattle.std.specs.Option.{option_map_or}
use Rattle.std.specs.Str.{bytes_eq}
use Rattle.fb_job.specs.declared.job.TestJob.{TestJob}
use Rattle.fb_job.specs.declared.job.Job.{Job}
use Rattle.fb_job.specs.declared.job.Job.TheVariants.{Test, Check, Replay, Fmt, Trial}

-- the report would take the place of the fault file
abbrev pub overwrites_faults : TestJob → Bool
overwrites_faults job = option_map_or (bytes_eq job.report) job.faults false

-- the report would take the place of an input
abbrev pub overwrites_input : Job → Bool
overwrites_input (Test job) = bytes_eq job.report job.services || bytes_eq job.report job.test || overwrites_faults job
overwrites_input (Check job) = false
overwrites_input (Replay job) = false
overwrites_input (Fmt services) = false
overwrites_input (Trial number size) = false

-- the name of the report that a job writes; a job that writes none has none
abbrev pub report_name : Option Job → List ℕ
report_name None = []
report_name (Some (Test job)) = job.report
report_name (Some (Check job)) = []
report_name (Some (Replay job)) = []
report_name (Some (Fmt services)) = []
report_name (Some (Trial number size)) = []
