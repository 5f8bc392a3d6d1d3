-- What files in memory hold.
use Rattle.std.specs.Prelude.{◌≡◌, ◌≢◌, ℕ, nat_lt, Bool, true, false, if◌then◌else◌, List, [], map, take, length, Option, None, Some, Result, Ok, Err, String, string_bytes}
use Rattle.std.specs.List.{find}
use Rattle.std.specs.Option.{option_map}
use Rattle.std.specs.Str.{bytes_eq}
use Rattle.std.specs.Global.{Vec, Global}
use Rattle.fb_files.specs.Files.{Held, Asked}
use Rattle.fb_files.specs.declared.error.LoadError.{LoadError}
use Rattle.fb_files.specs.declared.error.LoadError.TheVariants.{Failed, TooLong, Memory}
use Rattle.fb_files.specs.declared.error.WriteError.{WriteError}
use Rattle.fb_files.specs.declared.error.WriteError.TheVariants as write

-- the file has this name
abbrev pub has_name : List ℕ → String Global × Vec ℕ → Bool
has_name name file = bytes_eq (string_bytes file.0) name

-- the bytes under each name; of two files with one name the first counts
abbrev pub held_of : List (String Global × Vec ℕ) → Held
held_of files name = option_map (λ file. file.1.items) (find (has_name name) files)

-- the loads so far, and whether they failed
abbrev pub asked_of : List (String Global × Bool) → Asked
asked_of asked = map (λ load. (string_bytes load.0, load.1)) asked

-- what a load answers that isn't planned to fail
abbrev pub loaded : Option (List ℕ) → ℕ → Result (List ℕ) LoadError
loaded None limit = Err Failed
loaded (Some bytes) limit = if nat_lt limit (length bytes) then Err TooLong else Ok bytes

-- it is this answer, unless memory was refused
abbrev pub Answers : Result (List ℕ) LoadError → Result (Vec ℕ) LoadError → Type 0
Answers expected (Ok bytes) = expected ≡ Ok bytes.items
Answers expected (Err Failed) = expected ≡ Err Failed
Answers expected (Err TooLong) = expected ≡ Err TooLong
Answers expected (Err Memory) = Unit {0}

-- what an append adds of its bytes: all, or where it fails as many as are planned
abbrev pub added_by : Result (Unit {0}) WriteError → ℕ → List ℕ → List ℕ
added_by (Ok done) part bytes = bytes
added_by (Err write.Failed) part bytes = take part bytes
added_by (Err write.Memory) part bytes = []

-- an append fails exactly where it is planned to; one that is planned to fail takes memory only for bytes that it adds
abbrev pub EndsAsPlanned : Bool → ℕ → Result (Unit {0}) WriteError → Type 0
EndsAsPlanned planned part (Ok done) = planned ≡ false
EndsAsPlanned planned part (Err write.Failed) = planned ≡ true
EndsAsPlanned planned part (Err write.Memory) = planned ≡ true → part ≢ 0
