-- What a job that ended so has loaded.
use Rattle.std.proofs.Common.{◌≡◌, [], ◌∷◌, ◌++◌, Bool, true, false, refl, sym, append-nil}
use Rattle.fb_files.specs.Files.{Asked}
use Rattle.fb_cli.specs.declared.status.Role.{Role}
use Rattle.fb_cli.specs.declared.status.Role.TheVariants as role
use Rattle.fb_cli.specs.declared.status.Status.{Status}
use Rattle.fb_cli.specs.declared.status.Status.TheVariants.{Good, Failures, Usage, SameName, Refused, ReadFault, WriteFault, Memory, FuelSpent, BudgetSpent, NotMet, No}
use Rattle.fb_job.specs.declared.job.Job.{Job}
use Rattle.fb_job.specs.declared.job.Job.TheVariants.{Test, Check, Fmt, Replay, Trial}
use Rattle.fb_cli.specs.Asking.{names_given, names_of, names_until, loads_of, AsksFor, LoadedSome}
use Rattle.fb_cli.specs.Answers.{IsCampaignEnd}

-- all inputs were loaded
pub LoadedSome-all : (job : Job) (cause : Type 0) (before after : Asked) → after ≡ before ++ loads_of (names_of job) false → LoadedSome job cause before after
LoadedSome-all job cause before after asks =
    record { names = names_of job; first = ([], sym (append-nil _)); failed = false; asked = asks; caused = λ h. cc }

pub AsksFor-all : (job : Job) (cause : Type 0) (status : Status) (before after : Asked)
    → IsCampaignEnd status → after ≡ before ++ loads_of (names_of job) false → AsksFor job cause status before after
AsksFor-all job cause Good before after is asks = asks
AsksFor-all job cause Failures before after is asks = asks
AsksFor-all job cause WriteFault before after is asks = LoadedSome-all job cause before after asks
AsksFor-all job cause Memory before after is asks = LoadedSome-all job (Unit {0}) before after asks
AsksFor-all job cause Usage before after is asks = absurd is
AsksFor-all job cause SameName before after is asks = absurd is
AsksFor-all job cause (Refused refusal) before after is asks = absurd is
AsksFor-all job cause (ReadFault role) before after is asks = absurd is
AsksFor-all job cause (FuelSpent plan) before after is asks = asks
AsksFor-all job cause (BudgetSpent plan) before after is asks = asks
AsksFor-all job cause (NotMet index) before after is asks = absurd is
AsksFor-all job cause (No line rule) before after is asks = absurd is

LoadedSome-until : (job : Job) (cause : Type 0) (before after : Asked) (role : Role) (failed : Bool)
    → cause → after ≡ before ++ loads_of (names_until role job) failed → LoadedSome job cause before after
LoadedSome-until (Test job) cause before after role.Services failed is asks =
    record { names = job.services ∷ []; first = (job.test ∷ names_given job.faults, refl); failed = failed; asked = asks; caused = λ h. is }
LoadedSome-until (Check job) cause before after role.Services failed is asks =
    record { names = job.services ∷ []; first = (job.test ∷ names_given job.faults ++ job.report ∷ [], refl); failed = failed; asked = asks; caused = λ h. is }
LoadedSome-until (Replay job) cause before after role.Services failed is asks =
    record { names = job.services ∷ []; first = (job.test ∷ [], refl); failed = failed; asked = asks; caused = λ h. is }
LoadedSome-until (Fmt services) cause before after role.Services failed is asks =
    record { names = services ∷ []; first = ([], refl); failed = failed; asked = asks; caused = λ h. is }
LoadedSome-until (Trial number size) cause before after role.Services failed is asks =
    record { names = []; first = ([], refl); failed = failed; asked = asks; caused = λ h. is }
LoadedSome-until job cause before after role.Plan failed is asks =
    record { names = []; first = (names_of job, refl); failed = failed; asked = asks; caused = λ h. is }
LoadedSome-until (Test job) cause before after role.Test failed is asks =
    record { names = job.services ∷ job.test ∷ []; first = (names_given job.faults, refl); failed = failed; asked = asks; caused = λ h. is }
LoadedSome-until (Check job) cause before after role.Test failed is asks =
    record { names = job.services ∷ job.test ∷ []; first = (names_given job.faults ++ job.report ∷ [], refl); failed = failed; asked = asks; caused = λ h. is }
LoadedSome-until (Replay job) cause before after role.Test failed is asks =
    record { names = job.services ∷ job.test ∷ []; first = ([], refl); failed = failed; asked = asks; caused = λ h. is }
LoadedSome-until (Fmt services) cause before after role.Test failed is asks =
    record { names = services ∷ []; first = ([], refl); failed = failed; asked = asks; caused = λ h. is }
LoadedSome-until (Trial number size) cause before after role.Test failed is asks =
    record { names = []; first = ([], refl); failed = failed; asked = asks; caused = λ h. is }
LoadedSome-until (Test job) cause before after role.Faults failed is asks =
    record { names = names_of (Test job); first = ([], sym (append-nil _)); failed = failed; asked = asks; caused = λ h. is }
LoadedSome-until (Check job) cause before after role.Faults failed is asks =
    record {
      names = job.services ∷ job.test ∷ names_given job.faults;
      first = (job.report ∷ [], refl);
      failed = failed;
      asked = asks;
      caused = λ h. is;
    }
LoadedSome-until (Replay job) cause before after role.Faults failed is asks =
    record { names = names_of (Replay job); first = ([], refl); failed = failed; asked = asks; caused = λ h. is }
LoadedSome-until (Fmt services) cause before after role.Faults failed is asks =
    record { names = services ∷ []; first = ([], refl); failed = failed; asked = asks; caused = λ h. is }
LoadedSome-until (Trial number size) cause before after role.Faults failed is asks =
    record { names = []; first = ([], refl); failed = failed; asked = asks; caused = λ h. is }
LoadedSome-until job cause before after role.Report failed is asks =
    record { names = names_of job; first = ([], sym (append-nil _)); failed = failed; asked = asks; caused = λ h. is }

LoadedSome-weaker : (job : Job) (strong weak : Type 0) (before after : Asked) → (strong → weak) → LoadedSome job strong before after → LoadedSome job weak before after
LoadedSome-weaker job strong weak before after leads some =
    record { names = some.names; first = some.first; failed = some.failed; asked = some.asked; caused = λ h. leads (some.caused h) }

pub LoadedSome-none : (job : Job) (cause : Type 0) (before after : Asked) → after ≡ before → LoadedSome job cause before after
LoadedSome-none job cause before after same =
    record { names = []; first = (names_of job, refl); failed = false; asked = rw append-nil same; caused = λ h. cc }

-- however the job ended, some first inputs were loaded
pub LoadedSome-ended : (job : Job) (cause : Type 0) (status : Status) (before after : Asked) → cause → AsksFor job ⊥ status before after → LoadedSome job cause before after
LoadedSome-ended job cause Good before after is asks = LoadedSome-all job cause before after asks
LoadedSome-ended job cause Failures before after is asks = LoadedSome-all job cause before after asks
LoadedSome-ended job cause (Refused refusal) before after is asks = LoadedSome-until job cause before after refusal.role false is asks
LoadedSome-ended job cause (ReadFault role) before after is asks = LoadedSome-until job cause before after role true is asks.1
LoadedSome-ended job cause (FuelSpent plan) before after is asks = LoadedSome-all job cause before after asks
LoadedSome-ended job cause (BudgetSpent plan) before after is asks = LoadedSome-all job cause before after asks
LoadedSome-ended job cause (NotMet index) before after is asks = LoadedSome-all job cause before after asks
LoadedSome-ended job cause (No line rule) before after is asks = LoadedSome-all job cause before after asks
LoadedSome-ended job cause WriteFault before after is asks = LoadedSome-weaker job ⊥ cause before after (λ h. absurd h) asks
LoadedSome-ended job cause Memory before after is asks = LoadedSome-weaker job (Unit {0}) cause before after (λ h. is) asks
LoadedSome-ended job cause Usage before after is asks = LoadedSome-none job cause before after asks
LoadedSome-ended job cause SameName before after is asks = LoadedSome-none job cause before after asks

pub AsksFor-weaker : (job : Job) (cause : Type 0) (status : Status) (before after : Asked) → AsksFor job ⊥ status before after → AsksFor job cause status before after
AsksFor-weaker job cause Good before after asks = asks
AsksFor-weaker job cause Failures before after asks = asks
AsksFor-weaker job cause (Refused refusal) before after asks = asks
AsksFor-weaker job cause (ReadFault role) before after asks = asks
AsksFor-weaker job cause (FuelSpent plan) before after asks = asks
AsksFor-weaker job cause (BudgetSpent plan) before after asks = asks
AsksFor-weaker job cause (NotMet index) before after asks = asks
AsksFor-weaker job cause (No line rule) before after asks = asks
AsksFor-weaker job cause WriteFault before after asks = LoadedSome-weaker job ⊥ cause before after (λ h. absurd h) asks
AsksFor-weaker job cause Memory before after asks = asks
AsksFor-weaker job cause Usage before after asks = asks
AsksFor-weaker job cause SameName before after asks = asks
