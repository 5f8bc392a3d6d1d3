-- A fault file as its bytes give it.
use Rattle.std.specs.Prelude.{ℕ, suc, ℤ, nat_le, pos, List, [], ◌∷◌, ◌≡◌, map, length, codes, if◌then◌else◌, Option, Some, None, Result, Ok, Err, option_and_then}
use Rattle.std.specs.Option.{ok_or}
use Rattle.std.specs.Ordering.{int_eq}
use Rattle.toml.specs.Data.{Data, Members, get_member, as_integer, as_array, Items, no_items}
use Rattle.std.specs.Borrow.{Bor}
use Rattle.toml.specs.declared.value.Value.{Value}
use Rattle.toml.specs.View.{view}
use Rattle.fb_base.specs.Results.{◌>>=◌}
use Rattle.fb_syntax.specs.Trees.{ServicesTree}
use Rattle.fb_config.specs.declared.error.FaultsWhy.{FaultsWhy}
use Rattle.fb_config.specs.declared.error.FaultsWhy.TheVariants.{NotToml, UnknownKey, BadVersion, NotATable, TooMany}
use Rattle.fb_config.specs.declared.keys.Keys.TheVariants.{Top}
use Rattle.fb_config.specs.declared.fault_item.FaultItem.{FaultItem}
use Rattle.fb_config.specs.declared.fault_file.FaultFile.{FaultFile}
use Rattle.fb_config.specs.declared.choices.ChoiceTable.{ChoiceTable}
use Rattle.fb_config.specs.Documents.{document_of, data_of, table_with}
use Rattle.fb_config.specs.ReadItems.{item_read}
use Rattle.fb_config.specs.Choices.{choice_table}

-- the number is 1 or 2
abbrev pub version_of : Option ℤ → Result ℕ FaultsWhy
version_of None = Err BadVersion
version_of (Some n) = if int_eq n (pos 1) then Ok 1 else if int_eq n (pos 2) then Ok 2 else Err BadVersion

-- absent means 1
abbrev pub version_read : Option Data → Result ℕ FaultsWhy
version_read None = Ok 1
version_read (Some d) = version_of (as_integer d)

-- no more than 1,024 items
abbrev pub not_too_many : Items → Result (List Data) FaultsWhy
not_too_many items = if nat_le (length (data_of items)) 1024 then Ok (data_of items) else Err TooMany

-- the same items behind a reference
abbrev pub ListsAs : Result (Bor (List Value)) FaultsWhy → Result (List Data) FaultsWhy → Type 0
ListsAs (Ok list) listed = Ok (map view list.now) ≡ listed
ListsAs (Err why) listed = Err why ≡ listed

abbrev pub list_read : Option Data → Result (List Data) FaultsWhy
list_read None = Ok []
list_read (Some d) = ok_or (as_array d) (NotATable 0) >>= not_too_many

-- the items from the k-th on, or the first refusal of one
abbrev pub items_from : ServicesTree → ℕ → ℕ → List Data → Result (List FaultItem) FaultsWhy
items_from tree version k [] = Ok []
items_from tree version k (d ∷ ds) = do
  first ← item_read tree version k d
  rest ← items_from tree version (suc k) ds
  Ok (first ∷ rest)

-- the file that a table is, or its first refusal
unfoldable pub table_read : ServicesTree → Members → Result FaultFile FaultsWhy
table_read tree given = do
  table ← table_with Top (UnknownKey 0) given
  version ← version_read (get_member (codes "version") table)
  list ← list_read (get_member (codes "fault") table)
  items ← items_from tree version 1 list
  Ok (record { version = version; items = items })

-- the file that the bytes write
unfoldable pub file_read : ServicesTree → List ℕ → Result FaultFile FaultsWhy
file_read tree bytes = do
  table ← ok_or (document_of bytes) NotToml
  table_read tree table

-- what it configures for each method
unfoldable pub faults_read : ServicesTree → List ℕ → Result ChoiceTable FaultsWhy
faults_read tree bytes = do
  file ← file_read tree bytes
  Ok (choice_table tree file)
