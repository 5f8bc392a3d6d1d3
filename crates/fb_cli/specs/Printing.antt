-- What printing services gives.
use Rattle.std.specs.Prelude.{ℕ, true, List, String, Result, Ok, Err}
use Rattle.std.specs.Global.{Global}
use Rattle.fb_base.specs.Results.{◌>>=◌}
use Rattle.fb_print.specs.Services.{services_text}
use Rattle.fb_cli.specs.declared.status.Status.{Status}
use Rattle.fb_cli.specs.declared.tell.Ending.{Ending}
use Rattle.fb_cli.specs.declared.tell.Ending.TheVariants.{Told, Printed}
use Rattle.fb_cli.specs.Inputs.{services_read}

-- the canonical text of services, or why they have no tree
abbrev pub canonical_text : List ℕ → Result (List ℕ) Status
canonical_text bytes = do
  services ← services_read bytes
  Ok (services_text services)

-- a text is printed, and a status is told
abbrev pub ending_of : Result (String Global) Status → Ending
ending_of (Ok text) = Printed true text
ending_of (Err status) = Told status
