-- The texts of a number and a size.
use Rattle.std.specs.Prelude.{◌≡◌, ℕ, ◌-◌, ◌<◌, ◌⊎◌, List, [], ◌∷◌, ◌++◌, codes, string_bytes, Result, Ok, Err}
use Rattle.std.specs.List.{flat_map}
use Rattle.fb_print.specs.Services.{services_text, test_text}
use Rattle.fb_gen.specs.Draws.{later_services}
use Rattle.fb_gen.specs.Trees.{service_name, services_of, test_tree}
use Rattle.fb_gen.specs.declared.generating.Generated.{Generated}
use Rattle.fb_gen.specs.declared.generating.GenError.{GenError}
use Rattle.fb_gen.specs.declared.generating.GenError.TheVariants.{BadSize, Memory}

-- four lines: each failure of the service is a timeout
abbrev pub item_text : ℕ → List ℕ
item_text service = codes "[[fault]]\ncallee = \"" ++ service_name service ++ codes "\"\ncodes = [\"timeout\"]\n\n"

-- an item for each service but the first
abbrev pub faults_text : ℕ → List ℕ
faults_text size = flat_map item_text (later_services (size - 1))

pub record IsGenerated (number size : ℕ) (generated : Generated) : Type 0 where
  pub services : string_bytes generated.services ≡ services_text (services_of number size)
  pub test : string_bytes generated.test ≡ test_text test_tree
  pub faults : string_bytes generated.faults ≡ faults_text size

-- the texts, or BadSize exactly where the size is none; want of memory says nothing
abbrev pub GivesGenerated : ℕ → ℕ → Result Generated GenError → Type 0
GivesGenerated number size (Ok generated) = (0 < size) × (size < 13) × IsGenerated number size generated
GivesGenerated number size (Err BadSize) = (size ≡ 0) ⊎ (12 < size)
GivesGenerated number size (Err Memory) = Unit {0}
