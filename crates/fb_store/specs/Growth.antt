-- How the decision trees stand to the list of records.
use Rattle.std.specs.Prelude.{◌≡◌, ℕ, ◌≤◌, Option, Some, None, List, [], ◌∷◌, ◌++◌, length, take, position, slice_get}
use Rattle.std.specs.Option.{option_map}
use Rattle.fb_base.specs.declared.method.MethodId.{MethodId}
use Rattle.fb_base.specs.declared.value.Value.{Value}
use Rattle.fb_base.specs.declared.reply.Reply.{Reply}
use Rattle.fb_tree.specs.declared.asked.Asked.{Asked}
use Rattle.fb_tree.specs.declared.recorded.Record.{Record}
use Rattle.fb_store.specs.declared.place.Place.{Place}
use Rattle.fb_store.specs.declared.trees.Trees.{Trees}
use Rattle.fb_store.specs.Following.{begins, replies_of, AreAgreed, AreDifferent}
use Rattle.fb_store.specs.Trees.{root_in, branch_in}

-- the first record that begins so
unfoldable pub first_of : List Record → MethodId → List Value → List Reply → Option ℕ
first_of records method args replies = position (begins method args replies) records

-- the place at which these calls are answered
unfoldable pub place_of : List Record → MethodId → List Value → List Reply → Option Place
place_of records method args replies =
    option_map (λ id. record { first = id; answered = length replies }) (first_of records method args replies)

-- the record stands first at the place
pub record StandsAt (records : List Record) (item : Record) (place : Place) : Type 0 where
  pub item_is : slice_get records place.first ≡ Some item
  pub place_is : place_of records item.method item.args (take place.answered (replies_of item)) ≡ Some place

-- a record stands first there
abbrev pub IsPlace : List Record → Place → Type 0
IsPlace records place = (item : Record) × StandsAt records item place

-- the trees lead to the first records that begin as the way to them says
pub record AreGrown (records : List Record) (trees : Trees) : Type 0 where
  pub agreed : AreAgreed records
  pub different : AreDifferent records
  pub roots : (method : MethodId) (args : List Value) → root_in trees method args ≡ first_of records method args []
  pub branches : (place : Place) (item : Record) (asked : Asked) (other : Reply)
      → StandsAt records item place → slice_get item.calls place.answered ≡ Some asked → ¬ (asked.reply ≡ other)
      → branch_in trees place other ≡ first_of records item.method item.args (take place.answered (replies_of item) ++ other ∷ [])
  pub no_more : (place : Place) (other : Reply) → length records ≤ place.first → branch_in trees place other ≡ None
