-- The file of the system that is being written.
use Rattle.std.specs.Prelude.{ℕ, List, Option, string_bytes}
use Rattle.std.specs.Option.{option_map}
use Rattle.fb_files.specs.declared.disk_files.Created.{Created}

-- its name, while it is open
abbrev pub created_name : {F : Type 0} → Option (Created F) → Option (List ℕ)
created_name created = option_map (λ file. string_bytes file.name) created
