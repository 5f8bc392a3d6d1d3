-- What an error of the library for input and output means.
use Rattle.std.specs.Prelude.{Bool, true, false, ◌&&◌, is_none}
use Rattle.std.specs.IoError.{error_kind, raw_os_error}
use Rattle.std.specs.declared.io.Error.{Error}
use Rattle.std.specs.declared.io.ErrorKind.{ErrorKind}
use Rattle.std.specs.declared.io.ErrorKind.TheVariants.{OutOfMemory}

abbrev pub is_out_of_memory : ErrorKind → Bool
is_out_of_memory OutOfMemory = true
is_out_of_memory kind = false

-- an allocation was refused before the system was asked
abbrev pub is_refused_memory : Error → Bool
is_refused_memory error = is_out_of_memory (error_kind error) && is_none (raw_os_error error)
