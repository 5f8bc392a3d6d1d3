-- The number of a record, and the list with it.
use Rattle.std.proofs.Common.{◌≡◌, ℕ, suc, false, ◌||◌, List, [], ◌∷◌, ◌++◌, length, take, get_or, Some, None, slice_get, position, refl, sym, ap, ◌∙◌, subst, arith, if◌then◌else◌}
use Rattle.std.specs.List.{list_any}
use Rattle.std.proofs.lemmas.Option.{cond_some, slice_get-get_or, slice_get_within}
use Rattle.std.proofs.lemmas.List.{take_all}
use Rattle.std.proofs.lemmas.List.Sums.{position_or_len_is}
use Rattle.std.proofs.lemmas.Map.Keys.{any_passes_from_place}
use Rattle.fb_tree.specs.declared.recorded.Record.{Record}
use Rattle.fb_tree.specs.Agreement.{RecordsAgree}
use Rattle.fb_tree.specs.Sameness.{same_record, same_record-Decides}
use Rattle.fb_store.specs.declared.place.Place.{Place}
use Rattle.fb_store.specs.Ending.{IsLeftAt}
use Rattle.fb_store.specs.Following.{replies_of, number_of, with_record}
use Rattle.fb_store.specs.Growth.{first_of}
use Rattle.fb_store.proofs.Firsts.{position_from_first}
use Rattle.fb_store.proofs.Beginnings.{BeginsSo, false_from_Decides, begins_own, begins_next, first_so, none_so, length-replies_of}
use Rattle.fb_store.proofs.Agreed.{known_is}
use Rattle.fb_store.proofs.Growing.{way_to}

module _ (records : List Record) (item : Record) where
  -- a record to which all of its replies lead
  module _ (id : ℕ) (agree : (j : ℕ) (other : Record) → slice_get records j ≡ Some other → RecordsAgree item other)
      (found : first_of records item.method item.args (replies_of item) ≡ Some id) where
    stands : slice_get records id ≡ Some item
    stands = known_is records item id agree found

    begins_whole : BeginsSo item.method item.args (replies_of item) item
    begins_whole =
        subst (λ replies. BeginsSo item.method item.args replies item)
        (take_all (length item.calls) (replies_of item) (omega (arith, length-replies_of item))) (begins_own item (length item.calls) (omega arith))

    first : position (same_record item) records ≡ Some id
    first =
        let so = first_so records item.method item.args (replies_of item) id found in
        position_from_first (same_record item) records id (record {
          item = item;
          item_is = stands;
          passes = (same_record-Decides item item).1 refl;
          before = λ j other low is. false_from_Decides (same_record-Decides item other)
              (λ same. so.before j other low is (subst (BeginsSo item.method item.args (replies_of item)) same begins_whole));
        })

    pub number_known : id ≡ number_of records item
    unfolding number_of
    number_known = sym (cond_some _ _ id first).1

    pub added_known : records ≡ with_record records item
    unfolding with_record
    added_known =
        sym (ap (λ known. if known then records else records ++ item ∷ [])
        (any_passes_from_place (same_record item) records id item stands ((same_record-Decides item item).1 refl)))

  -- a record that isn't there
  module _ (unknown : (j : ℕ) → ¬ (slice_get records j ≡ Some item)) where
    fails : (j : ℕ) (other : Record) → slice_get records j ≡ Some other → same_record item other ≡ false
    fails j other is = false_from_Decides (same_record-Decides item other) (λ same. unknown j (is ∙ ap Some (sym same)))

    pub number_new : length records ≡ number_of records item
    unfolding number_of
    number_new =
        sym (position_or_len_is (same_record item) records (length records) item (omega arith)
        (λ k low. fails k (get_or records k item) (slice_get-get_or records k item low)) (λ low. absurd (omega arith)))

    pub added_new : records ++ item ∷ [] ≡ with_record records item
    unfolding with_record
    added_new = sym (ap (λ known. if known then records else records ++ item ∷ []) (none_passes records fails))
      where
        none_passes : (items : List Record) → ((j : ℕ) (other : Record) → slice_get items j ≡ Some other → same_record item other ≡ false)
            → list_any (same_record item) items ≡ false
        none_passes [] each = refl
        none_passes (x ∷ items) each =
            ap (λ here. here || list_any (same_record item) items) (each 0 x refl) ∙ none_passes items (λ j other is. each (suc j) other is)

  pub unknown_outside : first_of records item.method item.args [] ≡ None → (j : ℕ) → ¬ (slice_get records j ≡ Some item)
  unknown_outside outside j is =
      none_so records item.method item.args [] outside j item is (record { method_is = refl; args_are = refl; replies_are = refl })

  pub unknown_left : (at : Place) → IsLeftAt records item at → (j : ℕ) → ¬ (slice_get records j ≡ Some item)
  unknown_left at leaves j is =
      let replies = take at.answered (replies_of item) in
      let way = way_to records item.method item.args replies at leaves.reached in
      let within = slice_get_within item.calls at.answered leaves.asked leaves.asked_is in
      none_so records item.method item.args (replies ++ leaves.asked.reply ∷ []) leaves.unknown j item is
      (begins_next item.method item.args replies item leaves.asked (begins_own item at.answered (omega (arith, within)))
      (ap (slice_get item.calls) way.answered ∙ leaves.asked_is))
