-- What holds of every job that words say.
use Rattle.std.specs.Prelude.{ℕ, ◌≤◌}
use Rattle.fb_job.specs.declared.job.Job.{Job}
use Rattle.fb_job.specs.declared.job.Job.TheVariants.{Test, Check, Replay, Fmt, Trial}
use Rattle.fb_job.specs.Numbers.{most_budget, most_fuel, most_size}

-- units of fuel that words may give
abbrev pub IsFuel : ℕ → Type 0
IsFuel fuel = (1 ≤ fuel) × (fuel ≤ most_fuel)

-- a number of plans that words may give
abbrev pub IsBudget : ℕ → Type 0
IsBudget budget = budget ≤ most_budget

-- a number of services that words may give
abbrev pub IsSize : ℕ → Type 0
IsSize size = (1 ≤ size) × (size ≤ most_size)

-- each number of the job is within its limits
abbrev pub KeepsLimits : Job → Type 0
KeepsLimits (Test job) = IsFuel job.fuel × IsBudget job.budget
KeepsLimits (Check job) = Unit {0}
KeepsLimits (Replay job) = IsFuel job.fuel
KeepsLimits (Fmt services) = Unit {0}
KeepsLimits (Trial number size) = IsSize size
