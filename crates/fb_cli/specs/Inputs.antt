-- The inputs of a job, as the held files give them.
use Rattle.std.specs.Prelude.{ℕ, nat_lt, List, Option, Some, None, Result, Ok, Err, length, if◌then◌else◌}
use Rattle.fb_base.specs.Results.{◌>>=◌}
use Rattle.fb_files.specs.Files.{Held}
use Rattle.fb_syntax.specs.Limits.{longest_source}
use Rattle.fb_syntax.specs.declared.parse_error.ParseWhy.{ParseWhy}
use Rattle.fb_syntax.specs.Trees.{ServicesTree, TestTree}
use Rattle.fb_syntax.specs.FileReading.{services_of, test_of}
use Rattle.fb_check.specs.Walking.{Refusal}
use Rattle.fb_check.specs.FirstRefusal.{first_refusal, first_refusal_of_test}
use Rattle.fb_config.specs.declared.choices.ChoiceTable.{ChoiceTable}
use Rattle.fb_config.specs.declared.error.FaultsWhy.{FaultsWhy}
use Rattle.fb_config.specs.FaultFiles.{faults_read}
use Rattle.fb_cli.specs.declared.status.Role.{Role}
use Rattle.fb_cli.specs.declared.status.Role.TheVariants.{Services, Test, Faults, Report, Plan}
use Rattle.fb_cli.specs.declared.status.Why.{Why}
use Rattle.fb_cli.specs.declared.status.Why.TheVariants.{TooLong, Syntax, Check, Faults as refused_faults}
use Rattle.fb_cli.specs.declared.status.Status.{Status}
use Rattle.fb_cli.specs.declared.status.Status.TheVariants.{Refused, ReadFault}

-- the greatest size of each input, in bytes
abbrev pub limit_of : Role → ℕ
limit_of Services = longest_source
limit_of Test = 262144
limit_of Faults = 65536
limit_of Report = 268435456
limit_of Plan = 65536

abbrev pub refused : Role → Why → Status
refused role why = Refused (record { role = role; why = why })

-- the tree of a text, or why it is refused
abbrev pub parsed : {A : Type 0} → Role → Result A ParseWhy → Result A Status
parsed role (Ok tree) = Ok tree
parsed role (Err why) = Err (refused role (Syntax why))

-- what is accepted, or the first rule that it breaks
abbrev pub checked : {A : Type 0} → Role → Option Refusal → A → Result A Status
checked role None tree = Ok tree
checked role (Some refusal) tree = Err (refused role (Check refusal.place refusal.rule))

-- the bytes of an input: there, and no more than its limit
abbrev pub bytes_of : Role → Option (List ℕ) → Result (List ℕ) Status
bytes_of role None = Err (ReadFault role)
bytes_of role (Some bytes) = if nat_lt (limit_of role) (length bytes) then Err (refused role TooLong) else Ok bytes

-- what a fault file configures, or why it is refused
abbrev pub configured : {A : Type 0} → Result A FaultsWhy → Result A Status
configured (Ok faults) = Ok faults
configured (Err why) = Err (refused Faults (refused_faults why))

-- the tree of services, or why they have none
abbrev pub services_read : List ℕ → Result ServicesTree Status
services_read bytes = parsed Services (services_of bytes)

-- the tree of accepted services
abbrev pub services_accepted : List ℕ → Result ServicesTree Status
services_accepted bytes = do
  services ← services_read bytes
  checked Services (first_refusal services) services

-- the tree of an accepted test of these services
abbrev pub test_accepted : ServicesTree → List ℕ → Result TestTree Status
test_accepted services bytes = do
  test ← parsed Test (test_of bytes)
  checked Test (first_refusal_of_test services test) test

-- what the bytes of a fault file configure for these services
abbrev pub faults_accepted : ServicesTree → List ℕ → Result ChoiceTable Status
faults_accepted services bytes = configured (faults_read services bytes)

-- the tree of the services that are held under a name, or why there is none
abbrev pub services_input : Held → List ℕ → Result ServicesTree Status
services_input held name = do
  bytes ← bytes_of Services (held name)
  services_read bytes
