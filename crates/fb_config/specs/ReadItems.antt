-- The items of a fault file.
use Rattle.std.specs.Prelude.{◌&&◌, bytes_eq, true, ℕ, Bool, List, [], ◌++◌, codes, find, map, filter, if◌then◌else◌, Option, Some, None, Result, Ok, Err, is_some, option_map, option_and_then}
use Rattle.std.specs.Option.{ok_or, option_map_or}
use Rattle.toml.specs.Data.{Data, Members, get_member, as_str, as_table}
use Rattle.fb_base.specs.declared.kind.Kind.{Kind}
use Rattle.fb_base.specs.declared.reply.Reply.{Reply}
use Rattle.fb_base.specs.Results.{◌>>=◌}
use Rattle.fb_syntax.specs.Trees.{MethodTree, ServiceTree, ServicesTree}
use Rattle.fb_config.specs.declared.error.FaultsWhy.{FaultsWhy}
use Rattle.fb_config.specs.declared.error.FaultsWhy.TheVariants.{NotATable, UnknownKey, UnknownCallee, UnknownMethod, BadCode, BadValue}
use Rattle.fb_config.specs.declared.keys.Keys.TheVariants.{Item}
use Rattle.fb_config.specs.declared.fault_item.FaultItem.{FaultItem}
use Rattle.fb_config.specs.Documents.{table_with}
use Rattle.fb_config.specs.Values.{error_of, reply_of, replies_in}

abbrev pub service_with : List ServiceTree → List ℕ → Option ServiceTree
service_with services name = find (λ service. bytes_eq name service.name) services

abbrev pub method_with : List MethodTree → List ℕ → Option MethodTree
method_with methods name = find (λ method. bytes_eq name method.name) methods

-- the service that a text names
abbrev pub callee_read : List ServiceTree → Option Data → Option ServiceTree
callee_read services given = option_and_then (service_with services) (option_and_then as_str given)

-- the method that is named, if one is
abbrev pub method_read : List MethodTree → Option Data → Option (Option (List ℕ))
method_read methods None = Some None
method_read methods (Some d) = option_map (λ method. Some method.name) (option_and_then (method_with methods) (as_str d))

-- where no method is named, each one is meant
abbrev pub is_meant : Option (List ℕ) → List ℕ → Bool
is_meant named method = option_map_or (λ name. bytes_eq name method) named true

-- the kinds of the methods that are meant
abbrev pub kinds_meant : List MethodTree → Option (List ℕ) → List Kind
kinds_meant methods named = map (λ method. method.gives) (filter (λ method. is_meant named method.name) methods)

-- the errors of an item, which may be absent where values are there
abbrev pub codes_read : ℕ → Option Data → Option Data → Result (List Reply) FaultsWhy
codes_read k values None = if is_some values then Ok [] else Err (BadCode k)
codes_read k values (Some d) = ok_or (replies_in error_of d) (BadCode k)

-- its values, which may be absent
abbrev pub values_read : ℕ → List Kind → Option Data → Result (List Reply) FaultsWhy
values_read k kinds None = Ok []
values_read k kinds (Some d) = ok_or (replies_in (reply_of kinds) d) (BadValue k)

-- the errors, then the values
unfoldable pub replies_read : ℕ → List Kind → Option Data → Option Data → Result (List Reply) FaultsWhy
replies_read k kinds failing values = do
  errors ← codes_read k values failing
  given ← values_read k kinds values
  Ok (errors ++ given)

-- the k-th item of a file of a version, or the first rule that it breaks
unfoldable pub item_read : ServicesTree → ℕ → ℕ → Data → Result FaultItem FaultsWhy
item_read tree version k d = do
  given ← ok_or (as_table d) (NotATable k)
  table ← table_with (Item version) (UnknownKey k) given
  service ← ok_or (callee_read tree.services (get_member (codes "callee") table)) (UnknownCallee k)
  method ← ok_or (method_read service.methods (get_member (codes "method") table)) (UnknownMethod k)
  replies ← replies_read k (kinds_meant service.methods method) (get_member (codes "codes") table) (get_member (codes "values") table)
  Ok (record { callee = service.name; method = method; replies = replies })
