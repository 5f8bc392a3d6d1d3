-- The inputs of a campaign, as the held files give them: its sources, and the choices of its fault file.
use Rattle.std.specs.Prelude.{ℕ, List, Option, Some, None, Result, Ok}
use Rattle.fb_base.specs.Results.{◌>>=◌}
use Rattle.fb_files.specs.Files.{Held}
use Rattle.fb_syntax.specs.Trees.{ServicesTree}
use Rattle.fb_config.specs.Choices.{choice_table, no_items}
use Rattle.fb_config.specs.declared.choices.ChoiceTable.{ChoiceTable}
use Rattle.fb_cli.specs.declared.status.Role.TheVariants as role
use Rattle.fb_cli.specs.declared.status.Status.{Status}
use Rattle.fb_cli.specs.declared.test_inputs.TestInputs.{TestInputs}
use Rattle.fb_cli.specs.Inputs.{bytes_of, faults_accepted}
use Rattle.fb_cli.specs.Sources.{SourceTrees, sources_of, trees_of}

pub record CampaignInputs : Type 0 where
  pub sources : SourceTrees
  pub faults : ChoiceTable

abbrev pub inputs_seen : TestInputs → CampaignInputs
inputs_seen inputs = record { sources = trees_of inputs.sources; faults = inputs.faults }

-- what a fault file without items says
abbrev pub no_faults : ServicesTree → ChoiceTable
no_faults services = choice_table services no_items

-- what the fault file that is held under a name configures, or why it is refused
abbrev pub faults_input : Held → ServicesTree → List ℕ → Result ChoiceTable Status
faults_input held services name = do
  bytes ← bytes_of role.Faults (held name)
  faults_accepted services bytes

-- what is configured, by the fault file where there is one
abbrev pub faults_of : Held → ServicesTree → Option (List ℕ) → Result ChoiceTable Status
faults_of held services None = Ok (no_faults services)
faults_of held services (Some name) = faults_input held services name

-- all inputs, or the first refusal in the order of work
abbrev pub inputs_of : Held → List ℕ → List ℕ → Option (List ℕ) → Result CampaignInputs Status
inputs_of held services_name test_name faults_name = do
  sources ← sources_of held services_name test_name
  faults ← faults_of held sources.services faults_name
  Ok (record { sources = sources; faults = faults })
