-- Where the way of a record through the trees ends.
use Rattle.std.specs.Prelude.{◌≡◌, Some, None, List, [], ◌∷◌, ◌++◌, take, slice_get}
use Rattle.fb_tree.specs.declared.asked.Asked.{Asked}
use Rattle.fb_tree.specs.declared.recorded.Record.{Record}
use Rattle.fb_store.specs.declared.place.Place.{Place}
use Rattle.fb_store.specs.declared.store.Ending.{Ending}
use Rattle.fb_store.specs.declared.store.Ending.TheVariants.{Known, Outside, Branch}
use Rattle.fb_store.specs.Following.{replies_of}
use Rattle.fb_store.specs.Growth.{first_of, place_of}

-- its way leads to the place, and no record goes on with its next reply
pub record IsLeftAt (records : List Record) (item : Record) (place : Place) : Type 0 where
  pub asked : Asked
  pub asked_is : slice_get item.calls place.answered ≡ Some asked
  pub reached : place_of records item.method item.args (take place.answered (replies_of item)) ≡ Some place
  pub unknown : first_of records item.method item.args (take place.answered (replies_of item) ++ asked.reply ∷ []) ≡ None

abbrev pub IsEndingOf : List Record → Record → Ending → Type 0
IsEndingOf records item (Known id) = first_of records item.method item.args (replies_of item) ≡ Some id
IsEndingOf records item Outside = first_of records item.method item.args [] ≡ None
IsEndingOf records item (Branch place) = IsLeftAt records item place
