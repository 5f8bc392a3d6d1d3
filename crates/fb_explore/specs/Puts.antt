-- What puts do to the bytes of lines.
use Rattle.std.specs.Prelude.{◌≡◌, ℕ, All, Option, Some, None, List, ◌++◌, Result, Ok, Err}
use Rattle.fb_base.specs.Count.{Rose, NeverFell}
use Rattle.fb_base.specs.Front.{GrewByFrontOf}
use Rattle.fb_files.specs.Told.{BothTold}
use Rattle.fb_report.specs.declared.line.Line.{Line}
use Rattle.fb_report.specs.Ranges.{IsProperLine}
use Rattle.fb_functest.specs.Reading.{bytes_of}
use Rattle.fb_explore.specs.declared.error.PutError.{PutError}
use Rattle.fb_explore.specs.declared.error.PutError.TheVariants.{Failed}

-- why it stopped, where it did
abbrev pub stop_of : {A : Type 0} → Result A PutError → Option PutError
stop_of (Ok done) = None
stop_of (Err error) = Some error

-- all of the bytes are added; where it stopped a front of them
abbrev pub Puts : List ℕ → Option PutError → List ℕ → List ℕ → Type 0
Puts bytes None before after = after ≡ before ++ bytes
Puts bytes (Some error) before after = GrewByFrontOf bytes before after

-- these lines are put one after another, and where none was missing each is one that a program has
pub record HavePutLines (lines : List Line) (stop : Option PutError) (written : Option (List ℕ)) (faults : ℕ) (after : Option (List ℕ)) (faults_after : ℕ) : Type 0 where
  pub content : BothTold (Puts (bytes_of lines) stop) written after
  pub cause : stop ≡ Some Failed → Rose faults faults_after
  pub count : NeverFell faults faults_after
  pub proper : stop ≡ None → All IsProperLine lines
