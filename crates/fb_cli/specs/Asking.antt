-- The loads of a job: which names were asked for, and which load failed.
use Rattle.std.specs.Prelude.{◌≡◌, ℕ, Bool, true, false, IsTrue, Option, Some, None, IsSome, List, [], ◌∷◌, ◌++◌}
use Rattle.fb_base.specs.Front.{IsFrontOf}
use Rattle.fb_files.specs.Files.{Asked}
use Rattle.fb_cli.specs.declared.status.Role.{Role}
use Rattle.fb_cli.specs.declared.status.Role.TheVariants as role
use Rattle.fb_cli.specs.declared.status.Status.{Status}
use Rattle.fb_cli.specs.declared.status.Status.TheVariants.{Good, Failures, Usage, SameName, Refused, ReadFault, WriteFault, FuelSpent, BudgetSpent, NotMet, No, Memory}
use Rattle.fb_job.specs.declared.job.Job.{Job}
use Rattle.fb_job.specs.declared.job.Job.TheVariants.{Test, Check, Replay, Fmt, Trial}

-- the name of a file that may be left out
abbrev pub names_given : Option (List ℕ) → List (List ℕ)
names_given None = []
names_given (Some name) = name ∷ []

-- the files that a job reads, in the order of work
abbrev pub names_of : Job → List (List ℕ)
names_of (Test job) = job.services ∷ job.test ∷ names_given job.faults
names_of (Check job) = (job.services ∷ job.test ∷ names_given job.faults) ++ job.report ∷ []
names_of (Replay job) = job.services ∷ job.test ∷ []
names_of (Fmt services) = services ∷ []
names_of (Trial number size) = []

-- the job has a file of this role
abbrev pub HasInput : Role → Job → Type 0
HasInput role.Services (Test job) = Unit {0}
HasInput role.Services (Check job) = Unit {0}
HasInput role.Services (Replay job) = Unit {0}
HasInput role.Services (Fmt services) = Unit {0}
HasInput role.Services (Trial number size) = ⊥
HasInput role.Test (Test job) = Unit {0}
HasInput role.Test (Check job) = Unit {0}
HasInput role.Test (Replay job) = Unit {0}
HasInput role.Test (Fmt services) = ⊥
HasInput role.Test (Trial number size) = ⊥
HasInput role.Faults (Test job) = IsSome job.faults
HasInput role.Faults (Check job) = IsSome job.faults
HasInput role.Faults (Replay job) = ⊥
HasInput role.Faults (Fmt services) = ⊥
HasInput role.Faults (Trial number size) = ⊥
HasInput role.Report (Test job) = ⊥
HasInput role.Report (Check job) = Unit {0}
HasInput role.Report (Replay job) = ⊥
HasInput role.Report (Fmt services) = ⊥
HasInput role.Report (Trial number size) = ⊥
HasInput role.Plan job = ⊥

-- the files up to that of a role; a plan's text is read before all of them
abbrev pub names_until : Role → Job → List (List ℕ)
names_until role.Services (Test job) = job.services ∷ []
names_until role.Services (Check job) = job.services ∷ []
names_until role.Services (Replay job) = job.services ∷ []
names_until role.Services (Fmt services) = services ∷ []
names_until role.Services (Trial number size) = []
names_until role.Test (Test job) = job.services ∷ job.test ∷ []
names_until role.Test (Check job) = job.services ∷ job.test ∷ []
names_until role.Test (Replay job) = job.services ∷ job.test ∷ []
names_until role.Test (Fmt services) = services ∷ []
names_until role.Test (Trial number size) = []
names_until role.Faults (Test job) = job.services ∷ job.test ∷ names_given job.faults
names_until role.Faults (Check job) = job.services ∷ job.test ∷ names_given job.faults
names_until role.Faults (Replay job) = job.services ∷ job.test ∷ []
names_until role.Faults (Fmt services) = services ∷ []
names_until role.Faults (Trial number size) = []
names_until role.Report job = names_of job
names_until role.Plan job = []

-- the job reads services and a test of these names, and maybe more
pub record ReadsBoth (job : Job) (services test : List ℕ) : Type 0 where
  pub more : List (List ℕ)
  pub all : names_of job ≡ services ∷ test ∷ more
  pub until_services : names_until role.Services job ≡ services ∷ []
  pub until_test : names_until role.Test job ≡ services ∷ test ∷ []
  pub has_services : HasInput role.Services job
  pub has_test : HasInput role.Test job

-- it reads a fault file besides, where one is named, and maybe more
pub record ReadsInputs (job : Job) (services test : List ℕ) (faults : Option (List ℕ)) : Type 0 where
  pub both : ReadsBoth job services test
  pub more : List (List ℕ)
  pub all : names_of job ≡ (services ∷ test ∷ names_given faults) ++ more
  pub until_faults : names_until role.Faults job ≡ services ∷ test ∷ names_given faults
  pub has_faults : (name : List ℕ) → faults ≡ Some name → HasInput role.Faults job

-- each name was loaded once, in order, and only the last load may have failed
abbrev pub loads_of : List (List ℕ) → Bool → Asked
loads_of [] failed = []
loads_of (name ∷ []) failed = (name, failed) ∷ []
loads_of (name ∷ next ∷ rest) failed = (name, false) ∷ loads_of (next ∷ rest) failed

-- the load of the input of a role failed, after those before it
abbrev pub FailedAt : Role → Job → Asked → Asked → Type 0
FailedAt role job before after = HasInput role job × (after ≡ before ++ loads_of (names_until role job) true)

-- some first inputs of the job were loaded; the last load may have failed where there is a cause for the answer
pub record LoadedSome (job : Job) (cause : Type 0) (before after : Asked) : Type 0 where
  pub names : List (List ℕ)
  pub first : IsFrontOf names (names_of job)
  pub failed : Bool
  pub asked : after ≡ before ++ loads_of names failed
  pub caused : IsTrue failed → cause

-- what a job that ended so has asked for; put_failed says that the last put did
abbrev pub AsksFor : Job → Type 0 → Status → Asked → Asked → Type 0
AsksFor job put_failed Good before after = after ≡ before ++ loads_of (names_of job) false
AsksFor job put_failed Failures before after = after ≡ before ++ loads_of (names_of job) false
AsksFor job put_failed (Refused refusal) before after = after ≡ before ++ loads_of (names_until refusal.role job) false
AsksFor job put_failed (FuelSpent plan) before after = after ≡ before ++ loads_of (names_of job) false
AsksFor job put_failed (BudgetSpent plan) before after = after ≡ before ++ loads_of (names_of job) false
AsksFor job put_failed (NotMet index) before after = after ≡ before ++ loads_of (names_of job) false
AsksFor job put_failed (No line rule) before after = after ≡ before ++ loads_of (names_of job) false
AsksFor job put_failed (ReadFault role) before after = FailedAt role job before after
AsksFor job put_failed WriteFault before after = LoadedSome job put_failed before after
AsksFor job put_failed Memory before after = LoadedSome job (Unit {0}) before after
AsksFor job put_failed Usage before after = after ≡ before
AsksFor job put_failed SameName before after = after ≡ before
