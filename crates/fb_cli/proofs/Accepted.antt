-- Accepted inputs always have a report.
use Rattle.std.proofs.Common.{◌≡◌, ℕ, List, Option, Some, None, Result, Ok, refl, subst}
use Rattle.fb_base.specs.Results.{◌>>=◌}
use Rattle.fb_base.proofs.Results.{ok_then}
use Rattle.fb_files.specs.Files.{Held}
use Rattle.fb_syntax.specs.FileReading.{test_of}
use Rattle.fb_syntax.specs.Trees.{ServicesTree, TestTree}
use Rattle.fb_check.specs.Walking.{Refusal}
use Rattle.fb_check.specs.FirstRefusal.{first_refusal, first_refusal_of_test}
use Rattle.fb_campaign.specs.Plans.{plans}
use Rattle.fb_config.specs.Choices.{choices_for}
use Rattle.fb_config.specs.declared.choices.ChoiceTable.{ChoiceTable}
use Rattle.fb_functest.specs.ReportLaws.{CampaignsHaveLines}
use Rattle.fb_functest.specs.Runs.{runs_of}
use Rattle.fb_job.specs.declared.job.TestJob.{TestJob}
use Rattle.fb_cli.specs.declared.status.Role.{Role}
use Rattle.fb_cli.specs.declared.status.Role.TheVariants as role
use Rattle.fb_cli.specs.declared.status.Status.{Status}
use Rattle.fb_cli.specs.Campaigns.{AcceptedInputsHaveReports, settings_with}
use Rattle.fb_cli.specs.Inputs.{bytes_of, checked, parsed, services_accepted, services_read, test_accepted}
use Rattle.fb_cli.specs.Sources.{SourceTrees, sources_of}
use Rattle.fb_cli.specs.TestInputs.{CampaignInputs, faults_of, inputs_of}

-- what is checked well has no refusal
clear_of : {A : Type 0} (of : Role) (found : Option Refusal) (tree given : A) → checked of found tree ≡ Ok given → (found ≡ None) × (tree ≡ given)
clear_of of None tree given is =
    let same : tree ≡ given = cc in
    (refl, same)
clear_of of (Some refusal) tree given is = absurd cc

services_clear : (bytes : List ℕ) (services : ServicesTree) → services_accepted bytes ≡ Ok services → first_refusal services ≡ None
services_clear bytes services is =
    let read = ok_then (services_read bytes) (λ tree. checked role.Services (first_refusal tree) tree) services is in
    let clear = clear_of role.Services (first_refusal read.0) read.0 services read.2 in
    subst (λ tree. first_refusal tree ≡ None) clear.1 clear.0

test_clear : (services : ServicesTree) (bytes : List ℕ) (test : TestTree) → test_accepted services bytes ≡ Ok test
    → first_refusal_of_test services test ≡ None
test_clear services bytes test is =
    let read = ok_then (parsed role.Test (test_of bytes)) (λ tree. checked role.Test (first_refusal_of_test services tree) tree) test is in
    let clear = clear_of role.Test (first_refusal_of_test services read.0) read.0 test read.2 in
    subst (λ tree. first_refusal_of_test services tree ≡ None) clear.1 clear.0

-- what both trees are read from
abbrev with_test : ServicesTree → TestTree → Result SourceTrees Status
with_test services test = Ok (record { services = services; test = test })

abbrev test_with : Held → List ℕ → ServicesTree → Result SourceTrees Status
test_with held name services = bytes_of role.Test (held name) >>= λ bytes. (test_accepted services bytes >>= with_test services)

abbrev IsClear : SourceTrees → Type 0
IsClear sources = (first_refusal sources.services ≡ None) × (first_refusal_of_test sources.services sources.test ≡ None)

sources_clear : (held : Held) (services_name test_name : List ℕ) (sources : SourceTrees) → sources_of held services_name test_name ≡ Ok sources → IsClear sources
sources_clear held services_name test_name sources is =
    let first = ok_then (bytes_of role.Services (held services_name)) (λ bytes. (services_accepted bytes >>= test_with held test_name)) sources is in
    let services = ok_then (services_accepted first.0) (test_with held test_name) sources first.2 in
    let second = ok_then (bytes_of role.Test (held test_name)) (λ bytes. (test_accepted services.0 bytes >>= with_test services.0)) sources services.2 in
    let test = ok_then (test_accepted services.0 second.0) (with_test services.0) sources second.2 in
    let made : SourceTrees = record { services = services.0; test = test.0 } in
    let whole : with_test services.0 test.0 ≡ Ok sources = test.2 in
    let same : made ≡ sources = cc in
    subst IsClear same (services_clear first.0 services.0 services.1, test_clear services.0 second.0 test.0 test.1)

-- the sources of accepted inputs are accepted
abbrev with_faults : SourceTrees → ChoiceTable → Result CampaignInputs Status
with_faults sources faults = Ok (record { sources = sources; faults = faults })

abbrev faults_with : Held → TestJob → SourceTrees → Result CampaignInputs Status
faults_with held job sources = faults_of held sources.services job.faults >>= with_faults sources

inputs_clear : (held : Held) (job : TestJob) (inputs : CampaignInputs) → inputs_of held job.services job.test job.faults ≡ Ok inputs → IsClear inputs.sources
inputs_clear held job inputs is =
    let sources = ok_then (sources_of held job.services job.test) (faults_with held job) inputs is in
    let faults = ok_then (faults_of held sources.0.services job.faults) (with_faults sources.0) inputs sources.2 in
    let made : CampaignInputs = record { sources = sources.0; faults = faults.0 } in
    let whole : with_faults sources.0 faults.0 ≡ Ok inputs = faults.2 in
    let same : made ≡ inputs = cc in
    subst (λ i. IsClear i.sources) same (sources_clear held job.services job.test sources.0 sources.1)

pub inputs-have-reports : CampaignsHaveLines → AcceptedInputsHaveReports
inputs-have-reports there held job inputs is =
    let services = inputs.sources.services in
    let test = inputs.sources.test in
    let clear = inputs_clear held job inputs is in
    there services test (rw clear.0 refl) (rw clear.1 refl) inputs.faults.version (settings_with job)
    (plans (runs_of services test) (choices_for inputs.faults) job.fuel)
