-- How a call answers what is decided.
use Rattle.std.specs.Prelude.{◌≡◌, Option, Some, None, Result, Ok, Err}
use Rattle.clap.specs.declared.error.kind.ErrorKind.{ErrorKind}
use Rattle.clap.specs.declared.error.kind.ErrorKind.TheVariants.{OutOfMemory}
use Rattle.fb_job.specs.declared.job.JobError.{JobError}
use Rattle.fb_job.specs.declared.job.JobError.TheVariants.{Usage, Memory}

-- Ok with what is decided, and Usage where it is none; want of memory says nothing
abbrev pub AnswersJob : {A B : Type 0} → (A → B) → Option B → Result A JobError → Type 0
AnswersJob seen decided (Ok given) = decided ≡ Some (seen given)
AnswersJob seen decided (Err Usage) = decided ≡ None
AnswersJob seen decided (Err Memory) = Unit {0}

-- why `clap` gave no matches
abbrev pub cause_of : ErrorKind → JobError
cause_of OutOfMemory = Memory
cause_of other = Usage
