-- What a put does to what was sent.
use Rattle.std.specs.Prelude.{◌≡◌, ℕ, List, ◌++◌, Result, Ok, Err}
use Rattle.fb_base.specs.Front.{GrewByFrontOf}
use Rattle.fb_files.specs.declared.error.WriteError.{WriteError}

-- after a put the bytes are sent; one that answered an error may have sent a front of them
abbrev pub Puts : List ℕ → Result (Unit {0}) WriteError → List ℕ → List ℕ → Type 0
Puts bytes (Ok done) before after = after ≡ before ++ bytes
Puts bytes (Err error) before after = GrewByFrontOf bytes before after
