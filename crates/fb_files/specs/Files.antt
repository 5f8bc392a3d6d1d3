-- What the calls of a files object do to what is held and asked.
use Rattle.std.specs.Prelude.{◌≡◌, ◌≢◌, ◌<◌, ◌⊎◌, ℕ, Bool, true, false, List, [], ◌∷◌, ◌++◌, length, Option, Some, None, Result, Ok, Err}
use Rattle.std.specs.Global.{Vec}
use Rattle.std.specs.Option.{option_map}
use Rattle.fb_base.specs.Front.{IsFrontOf}
use Rattle.fb_files.specs.declared.error.LoadError.{LoadError}
use Rattle.fb_files.specs.declared.error.WriteError.{WriteError}
use Rattle.fb_files.specs.declared.error.LoadError.TheVariants.{Failed, TooLong, Memory}

-- the bytes that are held under a name, if any are
abbrev pub Held : Type 0
Held = List ℕ → Option (List ℕ)

-- the loads so far, the first one first: the name, and whether the load failed
abbrev pub Asked : Type 0
Asked = List (List ℕ × Bool)

-- the file of this name has this content now, and no other file changed
pub record Becomes (name content : List ℕ) (before after : Held) : Type 0 where
  pub here : after name ≡ Some content
  pub elsewhere : (other : List ℕ) → other ≢ name → after other ≡ before other

-- the file of this name has these bytes more at its end, or isn't held, as before; no other file changed
pub record Grows (name added : List ℕ) (before after : Held) : Type 0 where
  pub here : after name ≡ option_map (λ content. content ++ added) (before name)
  pub elsewhere : (other : List ℕ) → other ≢ name → after other ≡ before other

-- more bytes are held under the name than the limit allows
abbrev pub IsOverLimit : List ℕ → ℕ → Held → Type 0
IsOverLimit name limit held = (bytes : List ℕ) × (held name ≡ Some bytes) × (limit < length bytes)

-- what a load answers of what is held; when it may fail is said by the count of failures
abbrev pub Loads : List ℕ → ℕ → Result (Vec ℕ) LoadError → Held → Type 0
Loads name limit (Ok bytes) held = held name ≡ Some bytes.items
Loads name limit (Err Failed) held = Unit {0}
Loads name limit (Err TooLong) held = IsOverLimit name limit held
Loads name limit (Err Memory) held = Unit {0}

-- what a load adds to the loads so far
abbrev pub AddsLoad : List ℕ → Result (Vec ℕ) LoadError → Asked → Asked → Type 0
AddsLoad name (Ok bytes) before after = after ≡ before ++ (name, false) ∷ []
AddsLoad name (Err Failed) before after = after ≡ before ++ (name, true) ∷ []
AddsLoad name (Err TooLong) before after = after ≡ before ++ (name, false) ∷ []
AddsLoad name (Err Memory) before after = (after ≡ before ++ (name, false) ∷ []) ⊎ (after ≡ before)

-- after a create the file is held and empty; one that answered an error may have emptied it or left it
abbrev pub Creates : List ℕ → Result (Unit {0}) WriteError → Held → Held → Type 0
Creates name (Ok done) before after = Becomes name [] before after
Creates name (Err error) before after = (after ≡ before) ⊎ Becomes name [] before after

-- the name that was created last, where that create answered Ok
abbrev pub created_by : List ℕ → Result (Unit {0}) WriteError → Option (List ℕ)
created_by name (Ok done) = Some name
created_by name (Err error) = None

-- after an append the file has the bytes at its end; one that answered an error may have added a front of them
abbrev pub Appends : List ℕ → List ℕ → Result (Unit {0}) WriteError → Held → Held → Type 0
Appends bytes name (Ok done) before after = Grows name bytes before after
Appends bytes name (Err error) before after = (part : List ℕ) × IsFrontOf part bytes × Grows name part before after
