-- Why an evaluation stops.
use Rattle.fb_transport.specs.declared.decision.Halt.{Halt}
use Rattle.fb_transport.specs.declared.decision.Halt.TheVariants as halt
use Rattle.fb_eval.specs.declared.stop.Stop.{Stop}
use Rattle.fb_eval.specs.declared.stop.Stop.TheVariants as stop

-- a call without a decision stops the evaluation for the same cause
abbrev pub stop_of_halt : Halt → Stop
stop_of_halt halt.Missing = stop.Missing
stop_of_halt halt.Memory = stop.Memory
