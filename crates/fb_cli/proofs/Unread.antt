-- What the top call answers where there was no memory to read the words.
use Rattle.std.proofs.Common.{[], Bool, true, false, Option, Some, None, refl, sym, append-nil}
use Rattle.std.specs.Bool.{MatchBool}
use Rattle.fb_files.specs.Files.{Asked}
use Rattle.fb_files.specs.Told.{BothTold}
use Rattle.fb_cli.specs.declared.status.Status.TheVariants.{Memory}
use Rattle.fb_job.specs.declared.job.Job.{Job}
use Rattle.fb_job.specs.Names.{overwrites_input}
use Rattle.fb_cli.specs.Asking.{LoadedSome, names_of}
use Rattle.fb_cli.specs.Answers.{Asks}
use Rattle.fb_cli.proofs.TellingBoth.{BothTold-same}

both_ways : {P Q : Type 0} (b : Bool) → P → Q → MatchBool b P Q
both_ways true p q = p
both_ways false p q = q

loaded_none : (job : Job) (cause : Type 0) (asked : Asked) → LoadedSome job cause asked asked
loaded_none job cause asked =
    record { names = []; first = (names_of job, refl); failed = false; asked = sym (append-nil asked); caused = λ h. cc }

pub Asks-unread : (job : Option Job) (cause : Type 0) (asked : Option Asked) → BothTold (Asks job cause Memory) asked asked
Asks-unread job cause asked = BothTold-same (Asks job cause Memory) asked (stays job)
  where
    stays : (job : Option Job) (x : Asked) → Asks job cause Memory x x
    stays None x = refl
    stays (Some job) x = both_ways (overwrites_input job) refl (loaded_none job (Unit {0}) x)
