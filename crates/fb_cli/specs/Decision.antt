-- What the words and the held files decide.
use Rattle.std.specs.Prelude.{◌≡◌, Option, Some, None, Result, Ok, Err}
use Rattle.std.specs.Bool.{MatchBool}
use Rattle.fb_files.specs.Files.{Held}
use Rattle.fb_cli.specs.declared.status.Status.{Status}
use Rattle.fb_cli.specs.declared.status.Status.TheVariants.{Good, Usage, SameName}
use Rattle.fb_job.specs.declared.job.Job.{Job}
use Rattle.fb_job.specs.declared.job.Job.TheVariants.{Test, Check, Replay, Fmt, Trial}
use Rattle.fb_job.specs.Names.{overwrites_input}
use Rattle.fb_cli.specs.Inputs.{services_input}
use Rattle.fb_syntax.specs.Trees.{ServicesTree}
use Rattle.fb_cli.specs.Campaigns.{DecidesTest}
use Rattle.fb_cli.specs.Checking.{DecidesCheck, check_inputs_of}
use Rattle.fb_cli.specs.PlanInput.{PlanRead, ReadsPlan}
use Rattle.fb_cli.specs.TestInputs.{inputs_of}
use Rattle.fb_cli.specs.Trials.{DecidesTrial, generated_inputs}
use Rattle.fb_cli.specs.Replaying.{DecidesPlan}

-- services that have a tree are printed
abbrev pub status_of_services : Result ServicesTree Status → Status
status_of_services (Ok tree) = Good
status_of_services (Err status) = status

-- a job and the held files decide this status once the work is begun; a plan's text is read first
abbrev pub DecidesJob : Held → Job → Status → Type 0
DecidesJob held (Test job) = λ answer. DecidesTest job (inputs_of held job.services job.test job.faults) answer
DecidesJob held (Check job) = λ answer. DecidesCheck (check_inputs_of held job) answer
DecidesJob held (Replay job) = λ answer. (read : PlanRead) × ReadsPlan job.plan read × DecidesPlan held job read answer
DecidesJob held (Fmt services) = λ answer. answer ≡ status_of_services (services_input held services)
DecidesJob held (Trial number size) = λ answer. DecidesTrial (generated_inputs number size) answer

-- the words and the held files decide this status, in the order of work
abbrev pub DecidesWords : Held → Option Job → Status → Type 0
DecidesWords held None = λ answer. answer ≡ Usage
DecidesWords held (Some job) = λ answer. MatchBool (overwrites_input job) (answer ≡ SameName) (DecidesJob held job answer)
