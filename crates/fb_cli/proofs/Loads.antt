-- How the inputs of a job are built of single loads and of what their bytes spell.
use Rattle.std.proofs.Common.{◌≡◌, inl, inr, ℕ, ◌≤◌, ◌<◌, Bool, true, false, List, [], ◌∷◌, ◌++◌, length, Option, Some, None, Ok, Err, refl, sym, ap, ◌∙◌, subst, append_assoc, append-nil, arith, nat_lt}
use Rattle.std.specs.Option.{IfSome}
use Rattle.std.specs.Global.{Vec}
use Rattle.fb_files.specs.declared.error.LoadError.{LoadError}
use Rattle.fb_files.specs.declared.error.LoadError.TheVariants as load
use Rattle.fb_files.specs.Files.{Held, Asked, Loads}
use Rattle.fb_cli.specs.declared.status.Role.{Role}
use Rattle.fb_cli.specs.declared.status.Role.TheVariants as role
use Rattle.fb_cli.specs.declared.status.Why.TheVariants as why
use Rattle.fb_cli.specs.declared.status.Refusal.{Refusal}
use Rattle.fb_cli.specs.declared.status.Status.{Status}
use Rattle.fb_cli.specs.declared.status.Status.TheVariants.{Good, Failures, Usage, SameName, Refused, ReadFault, WriteFault, FuelSpent, BudgetSpent, NotMet, No, Memory}
use Rattle.fb_job.specs.declared.job.CheckJob.{CheckJob}
use Rattle.fb_job.specs.declared.job.TestJob.{TestJob}
use Rattle.fb_job.specs.declared.job.Job.{Job}
use Rattle.fb_job.specs.declared.job.ReplayJob.{ReplayJob}
use Rattle.fb_job.specs.declared.job.Job.TheVariants.{Test, Check, Replay}
use Rattle.fb_cli.specs.Inputs.{limit_of, bytes_of, refused}
use Rattle.fb_cli.specs.Asking.{HasInput, ReadsBoth, ReadsInputs, names_given, names_of, names_until, loads_of, AsksFor}
use Rattle.fb_cli.specs.Loading.{AsksFaults, AsksInput, EndsFaults, EndsText, EndsInput}

-- bytes that fit are given, and others are refused
bytes_of-fits : (role : Role) (bytes : List ℕ) → length bytes ≤ limit_of role → bytes_of role (Some bytes) ≡ Ok bytes
bytes_of-fits role bytes fits =
    let fact : nat_lt (limit_of role) (length bytes) ≡ false = grind arith in
    rw fact refl

bytes_of-long : (role : Role) (bytes : List ℕ) → limit_of role < length bytes → bytes_of role (Some bytes) ≡ Err (refused role why.TooLong)
bytes_of-long role bytes long =
    let fact : nat_lt (limit_of role) (length bytes) ≡ true = grind arith in
    rw fact refl

-- what a load gives of the held bytes
pub GivesInput-bytes : (role : Role) (name : List ℕ) (bytes : Vec ℕ) (told : Option Held)
    → IfSome told (λ held. held name ≡ Some bytes.items) → length bytes.items ≤ limit_of role
    → IfSome told (λ held. bytes_of role (held name) ≡ Ok bytes.items)
GivesInput-bytes role name bytes None is fits = tt
GivesInput-bytes role name bytes (Some held) is fits = rw is (bytes_of-fits role bytes.items fits)

pub GivesInput-long : (role : Role) (name : List ℕ) (error : LoadError) (told : Option Held) → error ≡ load.TooLong
    → IfSome told (Loads name (limit_of role) (Err error)) → IfSome told (λ held. bytes_of role (held name) ≡ Err (refused role why.TooLong))
GivesInput-long role name error None is loads = tt
GivesInput-long role name error (Some held) is loads =
    let over = subst (λ e. Loads name (limit_of role) (Err e) held) is loads in
    rw over.1 (bytes_of-long role over.0 over.2)

-- a text ends a job by a refusal or by want of memory
pub ended_by_text : (role : Role) (P : Status → Type 0)
    → ((refusal : Refusal) → refusal.role ≡ role → P (Refused refusal)) → P Memory
    → (status : Status) → EndsText role status → P status
ended_by_text role P refuses memory (Refused refusal) ends = refuses refusal ends
ended_by_text role P refuses memory Memory ends = memory
ended_by_text role P refuses memory Good ends = absurd ends
ended_by_text role P refuses memory Failures ends = absurd ends
ended_by_text role P refuses memory Usage ends = absurd ends
ended_by_text role P refuses memory SameName ends = absurd ends
ended_by_text role P refuses memory (ReadFault failed) ends = absurd ends
ended_by_text role P refuses memory WriteFault ends = absurd ends
ended_by_text role P refuses memory (FuelSpent plan) ends = absurd ends
ended_by_text role P refuses memory (BudgetSpent plan) ends = absurd ends
ended_by_text role P refuses memory (NotMet index) ends = absurd ends
ended_by_text role P refuses memory (No line rule) ends = absurd ends

-- so it ends it as an input does, once it is loaded
pub EndsInput-text : (role : Role) (status : Status) → EndsText role status → EndsInput role status
EndsInput-text role = ended_by_text role (EndsInput role) (λ refusal is. is) tt

pub AsksInput-text : (A : Type 0) (role : Role) (name : List ℕ) (before after : Asked) → after ≡ before ++ (name, false) ∷ []
    → (status : Status) → EndsText role status → AsksInput {A = A} name (Err status) before after
AsksInput-text A role name before after asks =
    ended_by_text role (λ status. AsksInput {A = A} name (Err status) before after) (λ refusal is. asks) (inl asks)

-- the services, which are the first input, ended the job
pub AsksFor-services : (A : Type 0) (job : Job) (name : List ℕ) (rest : List (List ℕ)) (cause : Type 0) (status : Status) (before after : Asked)
    → names_of job ≡ name ∷ rest → names_until role.Services job ≡ name ∷ [] → HasInput role.Services job
    → EndsInput role.Services status → AsksInput {A = A} name (Err status) before after → AsksFor job cause status before after
AsksFor-services A job name rest cause (Refused refusal) before after all until has ends asks =
    rw (ends, until) asks
AsksFor-services A job name rest cause (ReadFault failed) before after all until has ends asks = rw (ends, until) (has, asks)
AsksFor-services A job name rest cause Memory before after all until has ends (inl asks) =
    record { names = name ∷ []; first = (rest, all); failed = false; asked = asks; caused = λ _. tt }
AsksFor-services A job name rest cause Memory before after all until has ends (inr asks) =
    record { names = []; first = (names_of job, refl); failed = false; asked = rw append-nil asks; caused = λ _. tt }
AsksFor-services A job name rest cause Good before after all until has ends asks = absurd ends
AsksFor-services A job name rest cause Failures before after all until has ends asks = absurd ends
AsksFor-services A job name rest cause Usage before after all until has ends asks = absurd ends
AsksFor-services A job name rest cause SameName before after all until has ends asks = absurd ends
AsksFor-services A job name rest cause WriteFault before after all until has ends asks = absurd ends
AsksFor-services A job name rest cause (FuelSpent plan) before after all until has ends asks = absurd ends
AsksFor-services A job name rest cause (BudgetSpent plan) before after all until has ends asks = absurd ends
AsksFor-services A job name rest cause (NotMet index) before after all until has ends asks = absurd ends
AsksFor-services A job name rest cause (No line rule) before after all until has ends asks = absurd ends

-- the test ended the job, after the services were loaded
pub AsksFor-test : (A : Type 0) (job : Job) (services test : List ℕ) (cause : Type 0) (status : Status) (before middle after : Asked)
    → ReadsBoth job services test → EndsInput role.Test status → middle ≡ before ++ (services, false) ∷ []
    → AsksInput {A = A} test (Err status) middle after → AsksFor job cause status before after
AsksFor-test A job services test cause (Refused refusal) before middle after both ends first asks =
    rw (ends, both.until_test, asks, first) (append_assoc before _ _)
AsksFor-test A job services test cause (ReadFault failed) before middle after both ends first asks =
    rw (ends, both.until_test, asks, first) (both.has_test, append_assoc before _ _)
AsksFor-test A job services test cause Memory before middle after both ends first (inl asks) =
    record { names = services ∷ test ∷ []; first = (both.more, both.all); failed = false; asked = rw (asks, first) (append_assoc before _ _); caused = λ _. tt }
AsksFor-test A job services test cause Memory before middle after both ends first (inr asks) =
    record { names = services ∷ []; first = (test ∷ both.more, both.all); failed = false; asked = asks ∙ first; caused = λ _. tt }
AsksFor-test A job services test cause Good before middle after both ends first asks = absurd ends
AsksFor-test A job services test cause Failures before middle after both ends first asks = absurd ends
AsksFor-test A job services test cause Usage before middle after both ends first asks = absurd ends
AsksFor-test A job services test cause SameName before middle after both ends first asks = absurd ends
AsksFor-test A job services test cause WriteFault before middle after both ends first asks = absurd ends
AsksFor-test A job services test cause (FuelSpent plan) before middle after both ends first asks = absurd ends
AsksFor-test A job services test cause (BudgetSpent plan) before middle after both ends first asks = absurd ends
AsksFor-test A job services test cause (NotMet index) before middle after both ends first asks = absurd ends
AsksFor-test A job services test cause (No line rule) before middle after both ends first asks = absurd ends

pub ReadsBoth-test : (job : TestJob) → ReadsBoth (Test job) job.services job.test
ReadsBoth-test job = record { more = names_given job.faults; all = refl; until_services = refl; until_test = refl; has_services = tt; has_test = tt }

pub ReadsBoth-replay : (job : ReplayJob) → ReadsBoth (Replay job) job.services job.test
ReadsBoth-replay job = record { more = []; all = refl; until_services = refl; until_test = refl; has_services = tt; has_test = tt }

-- both were loaded
pub loads_of_both : (job : Job) (services test : List ℕ) (before middle after : Asked) → ReadsBoth job services test
    → middle ≡ before ++ (services, false) ∷ [] → after ≡ middle ++ (test, false) ∷ [] → after ≡ before ++ loads_of (names_until role.Test job) false
loads_of_both job services test before middle after both first second = rw (both.until_test, second, first) (append_assoc before _ _)

pub ReadsInputs-test : (job : TestJob) → ReadsInputs (Test job) job.services job.test job.faults
ReadsInputs-test job =
    record { both = ReadsBoth-test job; more = []; all = sym (append-nil _); until_faults = refl; has_faults = λ name given. rw given refl }

ReadsBoth-check : (job : CheckJob) → ReadsBoth (Check job) job.services job.test
ReadsBoth-check job =
    record { more = names_given job.faults ++ job.report ∷ []; all = refl; until_services = refl; until_test = refl; has_services = tt; has_test = tt }

pub ReadsInputs-check : (job : CheckJob) → ReadsInputs (Check job) job.services job.test job.faults
ReadsInputs-check job =
    record { both = ReadsBoth-check job; more = job.report ∷ []; all = refl; until_faults = refl; has_faults = λ name given. rw given refl }

-- ---- the fault file

module _ (A : Type 0) (job : Job) (services test : List ℕ) (faults : Option (List ℕ)) (reads : ReadsInputs job services test faults) (before middle after : Asked) where
  -- it ended the job, after the services and the test were loaded
  AsksFor-fault_file : (name : List ℕ) (status : Status) → faults ≡ Some name → middle ≡ before ++ (services, false) ∷ (test, false) ∷ []
      → EndsInput role.Faults status → AsksInput {A = A} name (Err status) middle after → AsksFor job ⊥ status before after
  AsksFor-fault_file name (Refused refusal) given first ends asks = rw (ends, reads.until_faults, given, asks, first) (append_assoc before _ _)
  AsksFor-fault_file name (ReadFault failed) given first ends asks =
      rw (ends, reads.until_faults, given, asks, first) (reads.has_faults name given, append_assoc before _ _)
  AsksFor-fault_file name Memory given first ends (inl asks) =
      record {
        names = services ∷ test ∷ name ∷ [];
        first = (reads.more, rw given at reads.all);
        failed = false;
        asked = rw (asks, first) (append_assoc before _ _);
        caused = λ _. tt;
      }
  AsksFor-fault_file name Memory given first ends (inr asks) =
      record {
        names = services ∷ test ∷ [];
        first = (reads.both.more, reads.both.all);
        failed = false;
        asked = asks ∙ first;
        caused = λ _. tt;
      }
  AsksFor-fault_file name Good given first ends asks = absurd ends
  AsksFor-fault_file name Failures given first ends asks = absurd ends
  AsksFor-fault_file name Usage given first ends asks = absurd ends
  AsksFor-fault_file name SameName given first ends asks = absurd ends
  AsksFor-fault_file name WriteFault given first ends asks = absurd ends
  AsksFor-fault_file name (FuelSpent plan) given first ends asks = absurd ends
  AsksFor-fault_file name (BudgetSpent plan) given first ends asks = absurd ends
  AsksFor-fault_file name (NotMet index) given first ends asks = absurd ends
  AsksFor-fault_file name (No line rule) given first ends asks = absurd ends

  AsksFor-without : (status : Status) → middle ≡ before ++ (services, false) ∷ (test, false) ∷ [] → status ≡ Memory → after ≡ middle
      → AsksFor job ⊥ status before after
  AsksFor-without status first is asks =
      subst (λ s. AsksFor job ⊥ s before after) (sym is)
      (record {
        names = services ∷ test ∷ [];
        first = (reads.both.more, reads.both.all);
        failed = false;
        asked = asks ∙ first;
        caused = λ _. tt;
      })

  pub AsksFor-faults : (status : Status) → middle ≡ before ++ (services, false) ∷ (test, false) ∷ [] → EndsFaults faults status
      → AsksFaults {A = A} faults (Err status) middle after → AsksFor job ⊥ status before after
  AsksFor-faults status first ends asks = known faults refl ends asks
    where
      known : (given : Option (List ℕ)) → faults ≡ given → EndsFaults given status → AsksFaults {A = A} given (Err status) middle after
          → AsksFor job ⊥ status before after
      known None is ends asks = AsksFor-without status first ends asks
      known (Some name) is ends asks = AsksFor-fault_file name status is first ends asks

  -- all were loaded
  pub loads_of_all : (made : A) → middle ≡ before ++ (services, false) ∷ (test, false) ∷ [] → AsksFaults faults (Ok made) middle after
      → after ≡ before ++ loads_of (names_until role.Faults job) false
  loads_of_all made first asks = known faults refl asks
    where
      known : (given : Option (List ℕ)) → faults ≡ given → AsksFaults given (Ok made) middle after
          → after ≡ before ++ loads_of (names_until role.Faults job) false
      known None is asks = rw (reads.until_faults, is, asks) first
      known (Some name) is asks = rw (reads.until_faults, is, asks, first) (append_assoc before _ _)

-- ---- the report

-- a load behind others
loads_of-more : (first : List ℕ) (rest : List (List ℕ)) (name : List ℕ) (failed : Bool)
    → loads_of ((first ∷ rest) ++ name ∷ []) failed ≡ loads_of (first ∷ rest) false ++ (name, failed) ∷ []
loads_of-more first [] name failed = refl
loads_of-more first (next ∷ rest) name failed = ap (λ loads. (first, false) ∷ loads) (loads_of-more next rest name failed)

-- all of a check, the last of which may have failed
loads_of-check : (job : CheckJob) (failed : Bool) (before : Asked)
    → before ++ loads_of (names_until role.Faults (Check job)) false ++ (job.report, failed) ∷ [] ≡ before ++ loads_of (names_of (Check job)) failed
loads_of-check job failed before =
    append_assoc before (loads_of (names_until role.Faults (Check job)) false) ((job.report, failed) ∷ [])
    ∙ sym (ap (λ loads. before ++ loads) (loads_of-more job.services (job.test ∷ names_given job.faults) job.report failed))

pub AsksFor-report : (A : Type 0) (job : CheckJob) (status : Status) (before middle after : Asked)
    → middle ≡ before ++ loads_of (names_until role.Faults (Check job)) false → EndsInput role.Report status
    → AsksInput {A = A} job.report (Err status) middle after → AsksFor (Check job) ⊥ status before after
AsksFor-report A job (Refused refusal) before middle after first ends asks = rw (ends, asks, first) (loads_of-check job false before)
AsksFor-report A job (ReadFault failed) before middle after first ends asks = rw (ends, asks, first) (tt, loads_of-check job true before)
AsksFor-report A job Memory before middle after first ends (inl asks) =
    record {
      names = names_of (Check job);
      first = ([], sym (append-nil _));
      failed = false;
      asked = rw (asks, first) (loads_of-check job false before);
      caused = λ _. tt;
    }
AsksFor-report A job Memory before middle after first ends (inr asks) =
    record {
      names = names_until role.Faults (Check job);
      first = (job.report ∷ [], refl);
      failed = false;
      asked = asks ∙ first;
      caused = λ _. tt;
    }
AsksFor-report A job Good before middle after first ends asks = absurd ends
AsksFor-report A job Failures before middle after first ends asks = absurd ends
AsksFor-report A job Usage before middle after first ends asks = absurd ends
AsksFor-report A job SameName before middle after first ends asks = absurd ends
AsksFor-report A job WriteFault before middle after first ends asks = absurd ends
AsksFor-report A job (FuelSpent plan) before middle after first ends asks = absurd ends
AsksFor-report A job (BudgetSpent plan) before middle after first ends asks = absurd ends
AsksFor-report A job (NotMet index) before middle after first ends asks = absurd ends
AsksFor-report A job (No line rule) before middle after first ends asks = absurd ends

pub loads_of_check : (job : CheckJob) (before middle after : Asked) → middle ≡ before ++ loads_of (names_until role.Faults (Check job)) false
    → after ≡ middle ++ (job.report, false) ∷ [] → after ≡ before ++ loads_of (names_of (Check job)) false
loads_of_check job before middle after first second = rw (second, first) (loads_of-check job false before)
