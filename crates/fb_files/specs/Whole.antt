-- What reading to the end and writing everything do to known bytes.
use Rattle.std.specs.Prelude.{◌≡◌, ◌<◌, ℕ, List, length, Option, Result, Ok, Err}
use Rattle.std.specs.Global.{Vec}
use Rattle.std.specs.Io.KnownBytes.{Appends}
use Rattle.fb_base.specs.Front.{IsFrontOf}
use Rattle.fb_files.specs.declared.error.LoadError.{LoadError}
use Rattle.fb_files.specs.declared.error.WriteError.{WriteError}
use Rattle.fb_files.specs.declared.error.LoadError.TheVariants.{Failed, TooLong, Memory}

-- what is read of these bytes; a read may fail, and memory may be refused
abbrev pub ReadsWhole : List ℕ → ℕ → Result (Vec ℕ) LoadError → Type 0
ReadsWhole left limit (Ok bytes) = bytes.items ≡ left
ReadsWhole left limit (Err Failed) = Unit {0}
ReadsWhole left limit (Err TooLong) = limit < length left
ReadsWhole left limit (Err Memory) = Unit {0}

-- the bytes were written, or a front of them
abbrev pub WritesWhole : List ℕ → Result (Unit {0}) WriteError → Option (List ℕ) → Option (List ℕ) → Type 0
WritesWhole bytes (Ok done) before after = Appends before after bytes
WritesWhole bytes (Err error) before after = (part : List ℕ) × IsFrontOf part bytes × Appends before after part
