-- What a fault file is as TOML.
use Rattle.std.specs.Prelude.{◌≡◌, ◌==◌, ◌&&◌, ◌||◌, bytes_eq, ℕ, Bool, List, [], ◌∷◌, codes, if◌then◌else◌, Option, Some, None, Result, Ok, Err, option_map, option_and_then}
use Rattle.std.specs.Str.{is_utf8}
use Rattle.std.specs.List.{list_all}
use Rattle.toml.specs.Data.{Data, Items, no_items, item, Members, no_members, member}
use Rattle.toml.specs.Parse.{parse_document}
use Rattle.fb_config.specs.declared.error.FaultsWhy.{FaultsWhy}
use Rattle.fb_config.specs.declared.error.FaultsError.{FaultsError}
use Rattle.fb_config.specs.declared.error.FaultsError.TheVariants.{Refused, Memory}
use Rattle.fb_config.specs.declared.keys.Keys.{Keys}
use Rattle.fb_config.specs.declared.keys.Keys.TheVariants.{Top, Item}

-- a call gave what is defined, or its refusal; want of memory is free
abbrev pub Gives : {A B : Type 0} → (A → B) → Result B FaultsWhy → Result A FaultsError → Type 0
Gives view defined (Ok x) = defined ≡ Ok (view x)
Gives view defined (Err (Refused why)) = defined ≡ Err why
Gives view defined (Err Memory) = Unit {0}

-- the table that the bytes write, which have to be text
unfoldable pub document_of : List ℕ → Option Members
document_of bytes = if is_utf8 bytes then parse_document bytes else None

abbrev pub data_of : Items → List Data
data_of no_items = []
data_of (item d ds) = d ∷ data_of ds

abbrev pub keys_of : Members → List (List ℕ)
keys_of no_members = []
keys_of (member key d rest) = key ∷ keys_of rest

abbrev pub is_item_key : List ℕ → Bool
is_item_key key = bytes_eq key (codes "callee") || bytes_eq key (codes "method") || bytes_eq key (codes "codes")

-- the keys that may stand at the top, and in an item of a file of a version
abbrev pub is_known : Keys → List ℕ → Bool
is_known Top key = bytes_eq key (codes "fault") || bytes_eq key (codes "version")
is_known (Item version) key = is_item_key key || (version == 2 && bytes_eq key (codes "values"))

-- the table where it has no other keys
abbrev pub table_with : Keys → FaultsWhy → Members → Result Members FaultsWhy
table_with keys why table = if list_all (is_known keys) (keys_of table) then Ok table else Err why

-- what is read of each, or none where one isn't read
abbrev pub all_of : {A B : Type 0} → (A → Option B) → List A → Option (List B)
all_of read [] = Some []
all_of read (x ∷ xs) = option_and_then (λ y. option_map (λ ys. y ∷ ys) (all_of read xs)) (read x)
