-- Accepted services and an accepted test of them, as the held files give them.
use Rattle.std.specs.Prelude.{◌≢◌, ℕ, List, Result, Ok}
use Rattle.fb_base.specs.Results.{◌>>=◌}
use Rattle.fb_files.specs.Files.{Held}
use Rattle.fb_syntax.specs.Trees.{ServicesTree, TestTree}
use Rattle.fb_cli.specs.declared.status.Role.TheVariants as role
use Rattle.fb_cli.specs.declared.status.Status.{Status}
use Rattle.fb_cli.specs.declared.status.Status.TheVariants.{Refused, ReadFault, Memory}
use Rattle.fb_cli.specs.declared.sources.Sources.{Sources}
use Rattle.fb_cli.specs.Inputs.{bytes_of, services_accepted, test_accepted}

pub record SourceTrees : Type 0 where
  pub services : ServicesTree
  pub test : TestTree

abbrev pub trees_of : Sources → SourceTrees
trees_of sources = record { services = sources.program.tree; test = sources.test.tree }

-- both trees, or the first refusal in the order of work
abbrev pub sources_of : Held → List ℕ → List ℕ → Result SourceTrees Status
sources_of held services_name test_name = do
  bytes ← bytes_of role.Services (held services_name)
  services ← services_accepted bytes
  test_bytes ← bytes_of role.Test (held test_name)
  test ← test_accepted services test_bytes
  Ok (record { services = services; test = test })

-- they end a job by the refusal of one of them, by a failed load, or by want of memory
abbrev pub EndsSources : Status → Type 0
EndsSources (Refused refusal) = refusal.role ≢ role.Plan
EndsSources (ReadFault failed) = Unit {0}
EndsSources Memory = Unit {0}
EndsSources status = ⊥
