-- What holds of the choices that a fault file configures.
use Rattle.std.specs.Prelude.{◌≡◌, ◌==◌, ◌⊎◌, ℕ, Bool, true, Some, List, Contains, length, slice_get}
use Rattle.std.specs.List.{list_all}
use Rattle.fb_base.specs.declared.method.MethodId.{MethodId}
use Rattle.fb_base.specs.declared.reply.Reply.{Reply}
use Rattle.fb_base.specs.declared.reply.Reply.TheVariants as reply
use Rattle.fb_base.specs.declared.value.Value.{Value}
use Rattle.fb_campaign.specs.Runs.{AreChoices, fits}
use Rattle.fb_syntax.specs.Trees.{ServicesTree}
use Rattle.fb_check.specs.declared.signature.Signature.{Signature}
use Rattle.fb_check.specs.Programs.{kinds_given, signature_at}
use Rattle.fb_config.specs.declared.fault_item.FaultItem.{FaultItem}
use Rattle.fb_config.specs.declared.fault_file.FaultFile.{FaultFile}
use Rattle.fb_config.specs.declared.choices.ChoiceTable.{ChoiceTable}
use Rattle.fb_config.specs.Choices.{means, choices_for, kind_given}

-- the replies of an item fit each method that it means
abbrev pub FitsMethods : ServicesTree → FaultItem → Type 0
FitsMethods tree item =
    (number : ℕ) (signature : Signature) → signature_at tree number ≡ Some signature → means item signature.name ≡ true →
    list_all (fits (slice_get (kinds_given tree)) (record { 0 = number })) item.replies ≡ true

-- so do those of all items
abbrev pub EachFits : ServicesTree → List FaultItem → Type 0
EachFits tree items = (n : ℕ) (item : FaultItem) → slice_get items n ≡ Some item → FitsMethods tree item

-- in version 1 a reply is an error
abbrev pub is_of_version : ℕ → Reply → Bool
is_of_version version (reply.Ok v) = version == 2
is_of_version version (reply.Err code) = true

abbrev pub IsVersion : ℕ → Type 0
IsVersion version = (version ≡ 1) ⊎ (version ≡ 2)

-- a file's version, and that all replies of its items are of that version
pub record IsOfItsVersion (file : FaultFile) : Type 0 where
  pub version : IsVersion file.version
  pub replies : (n : ℕ) (item : FaultItem) → slice_get file.items n ≡ Some item → list_all (is_of_version file.version) item.replies ≡ true

-- only a file of version 2 chooses values
abbrev pub ChoosesValuesInVersion2 : ChoiceTable → Type 0
ChoosesValuesInVersion2 table = (method : MethodId) (v : Value) → Contains (choices_for table method) (reply.Ok v) → table.version ≡ 2

-- choices fit and differ, each method has a list of them, and they are of the file's version
pub record IsChoiceTable (table : ChoiceTable) : Type 0 where
  pub choices : AreChoices (kind_given table) (choices_for table)
  pub counted : length table.choices ≡ length table.kinds
  pub version : IsVersion table.version
  pub values : ChoosesValuesInVersion2 table
