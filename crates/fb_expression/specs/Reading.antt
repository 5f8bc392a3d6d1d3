-- What an expression reads, as the meaning has it.
use Rattle.std.specs.Option.{option_copied}
use Rattle.fb_meaning.specs.Expressions.{Environment as Read}
use Rattle.fb_expression.specs.declared.environment.Environment.{Environment}

abbrev pub environment_of : Environment → Read
environment_of here = record { variables = here.variables.now; injected = option_copied here.injected }
