-- What the load of one input answers, and what that of all inputs does.
use Rattle.std.specs.Prelude.{◌≡◌, ◌⊎◌, ℕ, true, false, Option, Some, None, List, [], ◌∷◌, ◌++◌, Result, Ok, Err}
use Rattle.fb_base.specs.Count.{Rose}
use Rattle.fb_files.specs.Files.{Asked}
use Rattle.fb_cli.specs.declared.status.Role.{Role}
use Rattle.fb_cli.specs.declared.status.Role.TheVariants as role
use Rattle.fb_syntax.specs.declared.parse_error.ParseError.{ParseError}
use Rattle.fb_syntax.specs.declared.parse_error.ParseError.TheVariants as parse
use Rattle.fb_check.specs.declared.error.CheckError.{CheckError}
use Rattle.fb_check.specs.declared.error.CheckError.TheVariants as check
use Rattle.fb_config.specs.declared.error.FaultsError.{FaultsError}
use Rattle.fb_config.specs.declared.error.FaultsError.TheVariants as faults
use Rattle.fb_cli.specs.declared.status.Why.TheVariants as why
use Rattle.fb_cli.specs.declared.status.Status.{Status}
use Rattle.fb_cli.specs.declared.status.Status.TheVariants.{Refused, ReadFault, Memory}
use Rattle.fb_job.specs.declared.job.CheckJob.{CheckJob}
use Rattle.fb_job.specs.declared.job.Job.{Job}
use Rattle.fb_job.specs.declared.job.Job.TheVariants.{Check}
use Rattle.fb_cli.specs.Inputs.{refused}
use Rattle.fb_cli.specs.Asking.{names_of, names_until, loads_of, AsksFor}

-- what was read, seen by `view`, is what reading gives; a failure of the system and want of memory have causes of
-- their own
abbrev pub GivesInput : {Made Tree : Type 0} → (Made → Tree) → Result Made Status → Result Tree Status → Type 0
GivesInput view (Ok made) read = read ≡ Ok (view made)
GivesInput view (Err (ReadFault role)) read = Unit {0}
GivesInput view (Err Memory) read = Unit {0}
GivesInput view (Err status) read = read ≡ Err status

-- the text of an input ends a job by its refusal, or by want of memory
abbrev pub EndsText : Role → Status → Type 0
EndsText role (Refused refusal) = refusal.role ≡ role
EndsText role Memory = Unit {0}
EndsText role status = ⊥

-- an input ends a job also by a failure of its load
abbrev pub EndsInput : Role → Status → Type 0
EndsInput role (Refused refusal) = refusal.role ≡ role
EndsInput role (ReadFault failed) = failed ≡ role
EndsInput role Memory = Unit {0}
EndsInput role status = ⊥

-- what one input adds to the loads
abbrev pub AsksInput : {A : Type 0} → List ℕ → Result A Status → Asked → Asked → Type 0
AsksInput name (Err (ReadFault role)) before after = after ≡ before ++ (name, true) ∷ []
AsksInput name (Err Memory) before after = (after ≡ before ++ (name, false) ∷ []) ⊎ (after ≡ before)
AsksInput name result before after = after ≡ before ++ (name, false) ∷ []

-- what all inputs of a check add to the loads
abbrev pub AsksReport : {A : Type 0} → CheckJob → Result A Status → Asked → Asked → Type 0
AsksReport job (Ok inputs) before after = after ≡ before ++ loads_of (names_of (Check job)) false
AsksReport job (Err status) before after = AsksFor (Check job) ⊥ status before after

-- a failed load has its cause in the count of failures
abbrev pub HasLoadCause : {A : Type 0} → ℕ → ℕ → Result A Status → Type 0
HasLoadCause before after (Err (ReadFault role)) = Rose before after
HasLoadCause before after result = Unit {0}

-- what a fault file adds to the loads, which may be left out
abbrev pub AsksFaults : {A : Type 0} → Option (List ℕ) → Result A Status → Asked → Asked → Type 0
AsksFaults None result before after = after ≡ before
AsksFaults (Some name) result before after = AsksInput name result before after

-- it ends a job as any input does; where there is none, only want of memory is left
abbrev pub EndsFaults : Option (List ℕ) → Status → Type 0
EndsFaults None status = status ≡ Memory
EndsFaults (Some name) status = EndsInput role.Faults status

-- what the services and the test of a job add to the loads
abbrev pub AsksSources : {A : Type 0} → Job → Result A Status → Asked → Asked → Type 0
AsksSources job (Ok sources) before after = after ≡ before ++ loads_of (names_until role.Test job) false
AsksSources job (Err status) before after = AsksFor job ⊥ status before after

-- what the services, the test and the fault file of a job add to the loads
abbrev pub AsksInputs : {A : Type 0} → Job → Result A Status → Asked → Asked → Type 0
AsksInputs job (Ok inputs) before after = after ≡ before ++ loads_of (names_until role.Faults job) false
AsksInputs job (Err status) before after = AsksFor job ⊥ status before after

-- what a checker accepts, or the rule that its tree breaks
abbrev pub IsChecked : {A : Type 0} → Role → Result A CheckError → Result A Status → Type 0
IsChecked role (Ok accepted) answer = answer ≡ Ok accepted
IsChecked role (Err (check.Refused place rule)) answer = answer ≡ Err (refused role (why.Check place rule))
IsChecked role (Err check.Memory) answer = answer ≡ Err Memory

-- what a fault file configures, or why it is refused
abbrev pub IsConfigured : {A : Type 0} → Result A FaultsError → Result A Status → Type 0
IsConfigured (Ok configured) answer = answer ≡ Ok configured
IsConfigured (Err (faults.Refused refused_for)) answer = answer ≡ Err (refused role.Faults (why.Faults refused_for))
IsConfigured (Err faults.Memory) answer = answer ≡ Err Memory

-- the tree of a parser, or why its text is refused
abbrev pub IsParsed : {A : Type 0} → Role → Result A ParseError → Result A Status → Type 0
IsParsed role (Ok tree) answer = answer ≡ Ok tree
IsParsed role (Err (parse.Refused refused_for)) answer = answer ≡ Err (refused role (why.Syntax refused_for))
IsParsed role (Err parse.Memory) answer = answer ≡ Err Memory
