-- The steps of an index.
use Rattle.std.specs.Prelude.{ℕ, Bool, ◌&&◌, ◌==◌, ◌^◌, ◌<◌, ◌≤◌, List, ◌∷◌, ◌++◌}
use Rattle.std.specs.declared.cmp.Ordering.{Ordering}
use Rattle.std.specs.Fmt.{decimal}
use Rattle.std.specs.Ordering.{ordering_then, nat_cmp}

-- a call that a body makes: the site in the body's text, and which time the body reaches it, each counted from 1
pub record Occurrence : Type 0 where
  pub site : ℕ
  pub count : ℕ

-- a number that a text can spell
abbrev pub IsNumber : ℕ → Type 0
IsNumber n = (1 ≤ n) × (n < 2 ^ 32)

-- both its numbers are such
abbrev pub IsEntry : Occurrence → Type 0
IsEntry entry = IsNumber entry.site × IsNumber entry.count

abbrev pub same_entry : Occurrence → Occurrence → Bool
same_entry a b = a.site == b.site && a.count == b.count

-- by site, and then by count
abbrev pub entry_cmp : Occurrence → Occurrence → Ordering
entry_cmp a b = ordering_then (nat_cmp a.site b.site) (nat_cmp a.count b.count)

-- SITE.COUNT
abbrev pub entry_text : Occurrence → List ℕ
entry_text entry = decimal entry.site ++ 46 ∷ decimal entry.count
