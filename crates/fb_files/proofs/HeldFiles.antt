-- What is held after a write to the first file with a name, and after a new file.
use Rattle.std.proofs.Common.{◌≡◌, ◌≢◌, ◌<◌, ℕ, true, false, cond, nat_lt, List, [], ◌∷◌, ◌++◌, length, get_or, set, Option, IsSome, is_some, Some, None, position, String, string_bytes, refl, sym, ◌∙◌, ap, subst, inl, inr}
use Rattle.std.specs.Global.{Vec, Global}
use Rattle.std.specs.List.{find, position_or_len}
use Rattle.std.specs.Option.{option_map, option_or}
use Rattle.std.proofs.lemmas.Bool.{cases_Bool, false≢true, ltb-true, ltb-false}
use Rattle.std.proofs.lemmas.List.{set-get_or}
use Rattle.std.proofs.lemmas.List.Folds.{find-set, find_past, find_at, find-append}
use Rattle.std.proofs.lemmas.List.Sums.{passes_at_first}
use Rattle.std.proofs.lemmas.Option.{cond_some, none-some, slice_get_past}
use Rattle.std.proofs.lemmas.Slice.Eq.{bytes_eq-Decides}
use Rattle.fb_files.specs.Files.{Becomes, Grows}
use Rattle.fb_files.specs.MemoryFiles.{has_name, held_of}

abbrev File : Type 0
File = String Global × Vec ℕ

abbrev held_bytes : Option File → Option (List ℕ)
held_bytes found = option_map (λ file. file.1.items) found

named : (name : List ℕ) (file : File) → string_bytes file.0 ≡ name → has_name name file ≡ true
named name file is = (bytes_eq-Decides (string_bytes file.0) name).1 is

not_named : (name other : List ℕ) (file : File) → string_bytes file.0 ≡ name → other ≢ name
    → has_name other file ≡ false
not_named name other file is differs = elim (cases_Bool (has_name other file)) [
  | inl same ↦ absurd (differs (sym ((bytes_eq-Decides (string_bytes file.0) other).0 same) ∙ is))
  | inr differ ↦ differ
]

or_none : {A : Type 0} (o : Option A) → option_or o None ≡ o
or_none None = refl
or_none (Some x) = refl

module _ (files : List File) (name : List ℕ) (place : ℕ) (found : position (has_name name) files ≡ Some place) where
  first : position_or_len (has_name name) files ≡ place
  first = (cond_some _ _ _ found).1

  within : position_or_len (has_name name) files < length files
  within = ltb-true _ _ (cond_some _ _ _ found).0

  name_at_place : (was : File) → was ≡ get_or files place was → string_bytes was.0 ≡ name
  name_at_place was is =
      let passes = passes_at_first (has_name name) files was within in
      let here : has_name name was ≡ true = ap (has_name name) (is ∙ ap (λ i. get_or files i was) (sym first)) ∙ passes in
      (bytes_eq-Decides (string_bytes was.0) name).0 here

  -- the file at the place has this content now
  pub written : (was : File) (bytes : Vec ℕ) (content : List ℕ) → was ≡ get_or files place was → bytes.items ≡ content
      → Becomes name content (held_of files) (held_of (set files place (was.0, bytes)))
  written was bytes content is holds =
      let same_name = name_at_place was is in
      let below : place < length files = subst (λ i. i < length files) first within in
      record {
        here = ap held_bytes (find-set (has_name name) files place (was.0, bytes) (sym first) below (named name (was.0, bytes) same_name)) ∙ ap Some holds;
        elsewhere = λ other differs.
            ap held_bytes
            (find_past (has_name other) files place (was.0, bytes) was
            (ap (has_name other) (sym is) ∙ not_named name other was same_name differs)
            (not_named name other (was.0, bytes) same_name differs));
      }

  -- the file is held
  pub is_held : (was : File) (bytes : Vec ℕ) → was ≡ get_or files place was
      → IsSome (held_of (set files place (was.0, bytes)) name)
  is_held was bytes is = ap is_some (written was bytes bytes.items is refl).here

  held_at : (was : File) → was ≡ get_or files place was → held_of files name ≡ Some was.1.items
  held_at was is =
      let unchanged : set files place was ≡ files = ap (λ file. set files place file) is ∙ set-get_or files place was in
      ap (λ (l : List File). held_of l name) (sym unchanged) ∙ (written was was.1 was.1.items is refl).here

  -- it has these bytes more
  pub extended : (was : File) (bytes : Vec ℕ) (added : List ℕ) → was ≡ get_or files place was → bytes.items ≡ was.1.items ++ added
      → Grows name added (held_of files) (held_of (set files place (was.0, bytes)))
  extended was bytes added is grew =
      let now = written was bytes bytes.items is refl in
      record {
        here = now.here ∙ ap Some grew ∙ sym (ap (λ held. option_map (λ content. content ++ added) held) (held_at was is));
        elsewhere = now.elsewhere;
      }

not_found : (files : List File) (name : List ℕ) → position (has_name name) files ≡ None → find (has_name name) files ≡ None
not_found files name none = elim (cases_Bool (nat_lt (position_or_len (has_name name) files) (length files))) [
  | inl inside ↦ absurd (none-some _ (sym none ∙ ap (λ b. cond b (Some (position_or_len (has_name name) files)) None) inside))
  | inr past ↦ find_at (has_name name) files ∙ slice_get_past files _ (ltb-false _ _ past)
]

-- a file that is held has a place
pub not_held : (files : List File) (name : List ℕ) → position (has_name name) files ≡ None → IsSome (held_of files name) → ⊥
not_held files name none held = false≢true (sym (ap (λ found. is_some (held_bytes found)) (not_found files name none)) ∙ held)

-- a new file stands behind the others
pub pushed : (files after : List File) (name content : List ℕ) (file : File) → position (has_name name) files ≡ None
    → after ≡ files ++ file ∷ [] → string_bytes file.0 ≡ name → file.1.items ≡ content
    → Becomes name content (held_of files) (held_of after)
pushed files after name content file none grew is holds = subst (λ (l : List File). Becomes name content (held_of files) (held_of l)) (sym grew) record {
  here = ap held_bytes (find-append (has_name name) files (file ∷ []) ∙ found) ∙ ap Some holds;
  elsewhere = λ other differs. ap held_bytes (find-append (has_name other) files (file ∷ []) ∙ same other differs);
}
  where
    found : option_or (find (has_name name) files) (find (has_name name) (file ∷ [])) ≡ Some file
    found = rw (not_found files name none) (rw (named name file is) refl)

    same : (other : List ℕ) → other ≢ name → option_or (find (has_name other) files) (find (has_name other) (file ∷ [])) ≡ find (has_name other) files
    same other differs = rw (not_named name other file is differs) (or_none (find (has_name other) files))
