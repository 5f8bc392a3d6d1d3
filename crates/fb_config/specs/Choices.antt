-- The replies with which calls of a method may be answered in place of the method.
use Rattle.std.specs.Prelude.{◌&&◌, bytes_eq, ℕ, Bool, List, [], ◌∷◌, ◌++◌, map, flat_map, if◌then◌else◌, Option, slice_get}
use Rattle.std.specs.Option.{unwrap_or}
use Rattle.fb_base.specs.declared.kind.Kind.{Kind}
use Rattle.fb_base.specs.declared.method.MethodId.{MethodId}
use Rattle.fb_base.specs.declared.method.MethodName.{MethodName}
use Rattle.fb_base.specs.declared.reply.Reply.{Reply}
use Rattle.fb_syntax.specs.Trees.{MethodTree, ServiceTree, ServicesTree}
use Rattle.fb_check.specs.Declarations.{declarations_of}
use Rattle.fb_check.specs.Programs.{kinds_given}
use Rattle.fb_config.specs.declared.fault_item.FaultItem.{FaultItem}
use Rattle.fb_config.specs.declared.fault_file.FaultFile.{FaultFile}
use Rattle.fb_config.specs.declared.choices.ChoiceTable.{ChoiceTable}
use Rattle.fb_config.specs.ReadItems.{is_meant}
use Rattle.fb_config.specs.Once.{each_once}

-- the item means this method
abbrev pub means : FaultItem → MethodName → Bool
means item name = bytes_eq item.callee name.service && is_meant item.method name.method

abbrev pub replies_for : MethodName → FaultItem → List Reply
replies_for name item = if means item name then item.replies else []

-- those of all items that mean the method, in file order, each once
unfoldable pub choices_of : List FaultItem → MethodName → List Reply
choices_of items name = each_once (flat_map (replies_for name) items)

-- those for each of a service's methods
abbrev pub choices_in : List FaultItem → List ℕ → List MethodTree → List (List Reply)
choices_in items service methods = map (λ method. choices_of items (record { service = service; method = method.name })) methods

abbrev pub choices_by : List FaultItem → ServiceTree → List (List Reply)
choices_by items service = choices_in items service.name service.methods

-- a file's version, and by number what each method gives and its choices
unfoldable pub choice_table : ServicesTree → FaultFile → ChoiceTable
choice_table tree file = record {
  version = file.version;
  kinds = kinds_given tree;
  choices = map (λ signature. choices_of file.items signature.name) (declarations_of tree).methods;
}

-- the choices for a method, none where there is no such method
abbrev pub choices_for : ChoiceTable → MethodId → List Reply
choices_for table method = unwrap_or (slice_get table.choices method.0) []

-- the kind that a method gives
abbrev pub kind_given : ChoiceTable → ℕ → Option Kind
kind_given table number = slice_get table.kinds number

-- what a file without items says
abbrev pub no_items : FaultFile
no_items = record { version = 1; items = [] }
